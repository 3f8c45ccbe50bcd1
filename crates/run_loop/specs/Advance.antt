-- The run so far, and some steps more of which the last has something to be reported.
use Rattle.std.specs.Prelude.{◌≡◌, ◌<◌, ◌^◌, ℕ, suc, Bool, ◌++◌, Some}
use Rattle.joint_feed.specs.Stories.{Story, state_at}
use Rattle.joint_feed.specs.declared.course.Course.{Course}
use Rattle.joint_run.specs.Joint.{Beside}
use Rattle.joint_run.specs.Run.{World}
use Rattle.run_loop.specs.declared.ending.Ending.{Ending}
use Rattle.run_loop.specs.Gliding.{IsSilent, HasRunSoFar, IsTimely}
use Rattle.run_loop.specs.Running.{AreIn, log_at}

-- the course is after a step that may have something to be reported, and of those before it, back to step k, there is
-- nothing; what this one said is after the log, in later cycles than that of the state after step k
pub record IsAtReport (e : Ending) (wires : Bool) (s : Story) (k : ℕ) (c : Course) : Type 0 where
  pub timely : IsTimely e s
  pub run_so_far : HasRunSoFar e s c
  pub last : ℕ
  pub quiet : IsSilent e wires s k last
  pub steps : c.joint.steps ≡ suc last
  pub said : log_at s c.joint.steps ≡ log_at s last ++ c.seen.items.items
  pub from : World Beside
  pub there : state_at s k ≡ Some from
  pub later : from.cycle < c.joint.cycle
  pub near : c.joint.cycle < 2 ^ 31
  pub items : AreIn from.cycle c.joint.cycle c.seen.items.items
