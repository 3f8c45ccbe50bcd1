-- What the steps that are made at once come to in a run.
use Rattle.std.proofs.Common.{◌≡◌, ◌≤◌, ◌<◌, ℕ, ◌+◌, length, None, Some, Ok, Err, refl}
use Rattle.std.specs.Result.{IsErr}
use Rattle.std.specs.declared.option.Option.{Option}
use Rattle.std.specs.declared.result.Result.{Result}
use Rattle.board_terms.specs.Edges.{AreInOrder}
use Rattle.fw_kernel.specs.declared.labels.TheConstants.{TICK}
use Rattle.joint_feed.proofs.Going.{edges_few, host_few, later, no_further, on_again, on_moved, steps_more}
use Rattle.joint_feed.specs.Ahead.{IsFed}
use Rattle.joint_feed.specs.Course.{IsOnCourse}
use Rattle.joint_feed.specs.Stories.{Story}
use Rattle.joint_feed.specs.declared.ahead.Ahead.{Ahead}
use Rattle.joint_feed.specs.declared.course.Course.{Course}
use Rattle.joint_glide.specs.Uneventful.{HasGone}
use Rattle.joint_run.specs.Due.{IsJointStep}
use Rattle.joint_run.specs.Joint.{Beside}
use Rattle.joint_run.specs.Run.{World}
use Rattle.joint_run.specs.declared.due.Due.{Due}
use Rattle.joint_run.specs.declared.due.Seen.{Seen}
use Rattle.joint_run.specs.declared.machine.Machine.{Machine}
use Rattle.key_file.specs.Accepted.{IsThin}
use Rattle.mcs48_core.specs.declared.stepping.Stuck.{Stuck}
use Rattle.debugger.specs.Striding.{HasStrode}
use Rattle.debugger.proofs.Uneventful.{moved, on_quiet}

-- where the processor is stuck nothing has changed
stuck_as : (due : Due) (old new : Machine) (o : Option (World Beside)) (stuck : Stuck) → IsJointStep due old o (Err stuck) new → new ≡ old
stuck_as due old new None stuck h = h.1
stuck_as due old new (Some w) stuck h = absurd h

module _ (s : Story) (c : Course) (h : IsOnCourse s c) (thin : IsThin s.edges) (order : AreInOrder s.edges)
    (most : ℕ) (new : Machine) (seen : Seen) where
  module _ (gone : HasGone c.ahead.due TICK most c.joint (Ok seen) new) where
    abbrev there : Course
    there = moved c gone.last

    on_there : IsOnCourse s there
    on_there = on_quiet s thin order c TICK gone.count gone.last gone.quiet h

    -- what the last step took of the events was handed in
    pub took_edges : seen.edges ≤ length c.ahead.due.edges.items
    took_edges = edges_few s there new seen on_there thin order gone.step gone.run

    -- the steps did no more events than were handed in
    pub took_host : seen.host ≤ length c.ahead.due.host.items
    took_host = host_few s there new seen on_there thin order gone.step gone.run

    -- after quiet steps and one more, with its events counted, the machine is in its run
    pub strode_on : (ahead : Ahead)
        → 0 < seen.cycles → seen.cycles < 3 → IsFed s.edges s.events ahead → ahead.made ≡ c.ahead.made + seen.edges
        → ahead.done ≡ c.ahead.done + seen.host → HasStrode s most c (Ok tt) (record c { joint = new; ahead = ahead; seen = seen })
    strode_on ahead some few fed made done = record {
      count = gone.count;
      last = gone.last;
      quiet = gone.quiet;
      within = gone.within;
      step = (
        on_again s there new seen on_there thin order gone.step gone.run c.fill ahead some few fed made done,
        steps_more s there new seen on_there thin order gone.step gone.run,
      );
      later = later s there new seen on_there thin order gone.step gone.run some;
    }

  module _ (stuck : Stuck) (gone : HasGone c.ahead.due TICK most c.joint (Err stuck) new) where
    abbrev here : Course
    here = moved c gone.last

    on_here : IsOnCourse s here
    on_here = on_quiet s thin order c TICK gone.count gone.last gone.quiet h

    -- if the processor is stuck after quiet steps, the run has ended there
    pub strode_stuck : (r : Result (Unit {0}) Stuck) → IsErr r → HasStrode s most c r (record c { joint = new; seen = seen })
    strode_stuck (Ok done) is = absurd (cc is)
    strode_stuck (Err any) is =
        let still = stuck_as c.ahead.due gone.last new _ stuck gone.step in
        record {
          count = gone.count;
          last = gone.last;
          quiet = gone.quiet;
          within = gone.within;
          step = (on_moved s here new seen c.fill still on_here, still, refl, no_further s here new stuck on_here thin order gone.run);
          later = tt;
        }
