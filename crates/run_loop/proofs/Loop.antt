-- One turn of a run's loop, and what is so before the first.
use Rattle.std.proofs.Common.{◌≡◌, ◌<◌, ◌^◌, ℕ, Bool, true, false, List, ap, sym, subst, ◌∙◌, arith}
use Rattle.run_probes.specs.Looks.{looks}
use Rattle.run_probes.specs.Probes.{Watch}
use Rattle.joint_feed.proofs.Going.{here, same_state}
use Rattle.joint_feed.specs.Filled.{filled_story, run_of}
use Rattle.joint_feed.specs.Stories.{Story, state_at}
use Rattle.joint_feed.specs.declared.course.Course.{Course}
use Rattle.joint_run.specs.Joint.{Beside, joint_start_of}
use Rattle.joint_run.specs.Run.{World}
use Rattle.key_file.specs.Accepted.{IsAccepted}
use Rattle.key_file.specs.Histories.{KeyHistory}
use Rattle.run_loop.specs.declared.ending.End.TheVariants as ends
use Rattle.run_loop.specs.declared.ending.Ending.{Ending}
use Rattle.run_loop.specs.declared.ending.Halt.{Halt}
use Rattle.run_loop.specs.Advance.{IsAtReport}
use Rattle.run_loop.specs.Finished.{IsFinished}
use Rattle.run_loop.specs.Answers.{DecidesOver}
use Rattle.run_loop.specs.Gliding.{IsUnderWay, HasRunSoFar, IsTimely, history_of}
use Rattle.run_loop.specs.Looking.{BrokeOff}
use Rattle.run_loop.specs.Running.{GoesOnTo}
use Rattle.joint_feed.specs.Ahead.{HasTaken}
use Rattle.joint_feed.specs.Course.{IsOnCourse}
use Rattle.key_file.specs.Feeds.{Fed}
use Rattle.run_loop.specs.Ready.{IsReady}
use Rattle.run_loop.proofs.Reported.{led_to}

-- what a course runs, by its program, its history and what memory held
pub same_story : (c : Course) (fill : ℕ) (bytes : List ℕ) (h k : KeyHistory) → c.fill ≡ fill → c.joint.image.bytes ≡ bytes → h ≡ k
    → run_of c h ≡ filled_story fill bytes k
same_story c fill bytes h k held image history =
    ap (λ (f : ℕ). filled_story f c.joint.image.bytes h) held ∙ ap (λ (v : List ℕ). filled_story fill v h) image
    ∙ ap (filled_story fill bytes) history

-- before the first step
pub first_cycle : (s : Story) (c : Course) → IsOnCourse s c → c.joint.steps ≡ 0 → c.joint.cycle < 2 ^ 31
first_cycle s c on first =
    let start : joint_start_of s.held ≡ on.world = same_state (sym (ap (state_at s) first) ∙ here s c on) in
    let zero : 0 ≡ on.world.cycle = ap (λ (w : World Beside). w.cycle) start in
    let same = on.in_run.cycle in
    omega (arith, zero, same)

-- before the first step the probes have looked at nothing
pub first_looked : (s : Story) (c : Course) (probes : List Watch) → c.joint.steps ≡ 0 → probes ≡ looks s c.joint.steps probes
first_looked s c probes first = sym (ap (λ (k : ℕ). looks s k probes) first)

-- before the first step the run goes on
pub first_goes_on : (e : Ending) (s : Story) (c : Course) → IsOnCourse s c → c.joint.steps ≡ 0 → HasRunSoFar e s c
first_goes_on e s c on first = record { on = on; goes_on = subst (GoesOnTo e s) (sym first) tt }

module _ (u : Halt) (s : Story) (c : Course) (run_so_far : HasRunSoFar u.ending s c) (stop : s.stop ≡ u.stop)
    (over : Bool) (decides : DecidesOver u.ending c.joint u.stop over) where
  -- the run goes on there
  pub under_way : IsTimely u.ending s → IsAccepted (history_of s) → over ≡ false → (first probes : List Watch)
      → probes ≡ looks s c.joint.steps first → IsUnderWay u s first c probes
  under_way timely accepted off first probes looked = record {
    going = record {
      stop = stop;
      accepted = accepted;
      timely = timely;
      run_so_far = run_so_far;
      not_over = sym (decides s run_so_far.on.world stop (sym run_so_far.on.in_run.mcu) (sym run_so_far.on.in_run.cycle)) ∙ off;
    };
    looked = looked;
  }

  -- or is over
  pub over_now : over ≡ true → IsFinished u.ending s (record { end = ends.Reached; joint = c.joint })
  over_now on = record {
    after = record {
      world = run_so_far.on.world;
      goes_on = run_so_far.goes_on;
      reached = here s c run_so_far.on;
      ends = sym (decides s run_so_far.on.world stop (sym run_so_far.on.in_run.mcu) (sym run_so_far.on.in_run.cycle)) ∙ on;
    };
    processor = run_so_far.on.in_run.mcu;
    cycles = run_so_far.on.in_run.cycle;
  }

-- the report broke off after such steps
pub broke_off : (e : Ending) (wires : Bool) (s : Story) (k : ℕ) (broken : ℕ → Type 0) (first : List Watch) (new : Course) (after : List Watch)
    → (b : IsAtReport e wires s k new) → after ≡ looks s new.joint.steps first → broken b.last → BrokeOff e s broken first after
broke_off e wires s k broken first new after b looked h = record {
  last = b.last;
  goes_on = subst (GoesOnTo e s) b.steps b.run_so_far.goes_on;
  led_to = b.run_so_far.on.world;
  made = led_to e wires s k new b;
  broken_so = h;
  looked = looked ∙ ap (λ (n : ℕ). looks s n first) b.steps;
}

-- a machine at power-on, with the first events of an accepted history in hand, is ready to run
pub ready_at_start : (fill : ℕ) (bytes : List ℕ) (h : KeyHistory) (fed : Fed) (c : Course)
    → IsOnCourse (filled_story fill bytes h) c → c.fill ≡ fill → fed.history ≡ h → c.joint.steps ≡ 0 → HasTaken fed c.ahead
    → IsAccepted h → IsReady (run_of c fed.history) fed c
ready_at_start fill bytes h fed c on held same steps taken accepted = record {
  accepted = subst IsAccepted (sym same) accepted;
  on = subst (λ (s : Story). IsOnCourse s c) (sym (same_story c fill bytes fed.history h held on.image same)) on;
  steps = steps;
  taken = taken;
}
