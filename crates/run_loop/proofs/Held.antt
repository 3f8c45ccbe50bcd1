-- A run that is stuck: no state follows, and the processor is stuck there.
use Rattle.std.proofs.Common.{◌≡◌, ℕ, suc, List, Some, None, Err, true, is_none, ap, sym, subst, ◌∙◌}
use Rattle.std.specs.declared.option.Option.{Option}
use Rattle.run_probes.specs.Stuck.{sticks}
use Rattle.joint_glide.proofs.NoStep.{none_step}
use Rattle.run_probes.specs.Probes.{Watch}
use Rattle.joint_feed.proofs.Going.{here, no_further, on_moved, same_state}
use Rattle.joint_feed.specs.Course.{IsOnCourse}
use Rattle.joint_feed.specs.Stories.{Story, state_at}
use Rattle.joint_feed.specs.declared.ahead.Ahead.{Ahead}
use Rattle.joint_feed.specs.declared.course.Course.{Course}
use Rattle.joint_run.specs.Due.{IsJointStep}
use Rattle.joint_run.specs.Joint.{Beside, joint_board}
use Rattle.joint_run.specs.Run.{World, joint_step, step_on}
use Rattle.joint_run.specs.declared.due.Due.{Due}
use Rattle.joint_run.specs.declared.machine.Machine.{Machine}
use Rattle.mcs48_core.specs.declared.stepping.Stuck.{Stuck}
use Rattle.run_loop.specs.declared.ending.End.TheVariants as ends
use Rattle.run_loop.specs.declared.ending.Halt.{Halt}
use Rattle.run_loop.specs.Finished.{IsFinished}
use Rattle.run_loop.specs.Gliding.{IsGoing, IsHeldUp, IsSilent}
use Rattle.run_loop.specs.Running.{GoesOnTo, is_over, place_of}

-- if no step follows a state, the processor is stuck there
pub stuck_where_none : (s : Story) (w : World Beside)
    → joint_step (joint_board s.edges s.events) s.bytes w ≡ None → sticks s.bytes w.cpu ≡ true
stuck_where_none s w none = sym (none_step s.edges s.events s.bytes w) ∙ ap is_none none

-- what is answered of a processor that is stuck
place_stuck : (due : Due) (old new : Machine) (o : Option (World Beside)) (stuck : Stuck) → IsJointStep due old o (Err stuck) new
    → stuck ≡ place_of old.image.bytes old.mcu
place_stuck due old new None stuck h = h.0
place_stuck due old new (Some w) stuck h = absurd h

module _ (u : Halt) (s : Story) (first : List Watch) (old new : Course) (after : List Watch) (stuck : Stuck)
    (h : IsHeldUp u s first old new after stuck) where
  abbrev last : Course
  last = h.last

  abbrev going : IsGoing u s last
  going = h.onward.going

  steps_same : new.joint.steps ≡ last.joint.steps
  steps_same = ap (λ (m : Machine). m.steps) h.joint

  on_now : IsOnCourse s new
  on_now =
      subst (λ (a : Ahead). IsOnCourse s (record { joint = new.joint; ahead = a; seen = new.seen; fill = new.fill })) (sym h.ahead)
      (on_moved s last new.joint new.seen new.fill h.joint going.run_so_far.on)

  there : state_at s new.joint.steps ≡ Some on_now.world
  there = here s new on_now

  same_world : on_now.world ≡ going.run_so_far.on.world
  same_world = same_state (sym there ∙ ap (state_at s) steps_same ∙ here s last going.run_so_far.on)

  none : state_at s (suc new.joint.steps) ≡ None
  none =
      ap (λ (k : ℕ). state_at s (suc k)) steps_same
      ∙ no_further s last new.joint stuck going.run_so_far.on going.accepted.lawful.thin going.accepted.lawful.edges_in_order h.run

  no_step : joint_step (joint_board s.edges s.events) s.bytes on_now.world ≡ None
  no_step = sym (ap (step_on (joint_board s.edges s.events) s.bytes) there) ∙ none

  -- of the steps before the processor is stuck nothing is to be reported
  pub still_quiet : IsSilent u.ending u.wires s old.joint.steps new.joint.steps
  still_quiet = subst (λ (k : ℕ). IsSilent u.ending u.wires s old.joint.steps k) (sym steps_same) h.onward.quiet

  -- a run whose processor is stuck has ended there
  pub stuck_end : IsFinished u.ending s (record { end = ends.Stuck stuck; joint = new.joint })
  stuck_end = record {
    after = record {
      world = on_now.world;
      goes_on = subst (GoesOnTo u.ending s) (sym steps_same) going.run_so_far.goes_on;
      reached = there;
      ends = record {
        before_end = ap (is_over u.ending s) same_world ∙ going.not_over;
        no_row = stuck_where_none s on_now.world no_step;
        none = none;
        at = place_stuck last.ahead.due last.joint new.joint _ stuck h.step
            ∙ ap (λ (b : List ℕ). place_of b last.joint.mcu) going.run_so_far.on.image
            ∙ ap (place_of s.bytes) (going.run_so_far.on.in_run.mcu ∙ ap (λ (w : World Beside). w.cpu) (sym same_world));
      };
    };
    processor = on_now.in_run.mcu;
    cycles = on_now.in_run.cycle;
  }
