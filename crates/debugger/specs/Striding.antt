-- Steps that are made at once: quiet ones, and then one of any kind.
use Rattle.std.specs.Prelude.{◌≡◌, ◌≤◌, ◌<◌, ℕ, suc, ◌+◌, None, Ok, Err, OnOk}
use Rattle.std.specs.declared.result.Result.{Result}
use Rattle.fw_kernel.specs.declared.labels.TheConstants.{TICK}
use Rattle.joint_feed.specs.Course.{IsOnCourse}
use Rattle.joint_feed.specs.Stories.{Story, state_at}
use Rattle.joint_feed.specs.declared.course.Course.{Course}
use Rattle.joint_glide.specs.Uneventful.{AreUneventful}
use Rattle.joint_run.specs.declared.machine.Machine.{Machine}
use Rattle.mcs48_core.specs.declared.stepping.Stuck.{Stuck}

-- a step: the machine is one step on; or the run has no state there, and nothing has changed
abbrev pub IsStepOn : Story → Course → Result (Unit {0}) Stuck → Course → Type 0
IsStepOn s old (Ok done) new = IsOnCourse s new × (new.joint.steps ≡ suc old.joint.steps)
IsStepOn s old (Err stuck) new =
    IsOnCourse s new × (new.joint ≡ old.joint) × (new.ahead ≡ old.ahead) × (state_at s (suc old.joint.steps) ≡ None)

-- quiet steps, in at most so many cycles together, none of which leads to the tick's place, and then a step of the run;
-- or the run has no state there
pub record HasStrode (s : Story) (most : ℕ) (old : Course) (result : Result (Unit {0}) Stuck) (new : Course)
    : Type 0 where
  pub count : ℕ
  pub last : Machine
  pub quiet : AreUneventful old.ahead.due TICK count old.joint last
  pub within : last.cycle ≤ old.joint.cycle + most
  pub step : IsStepOn s (record old { joint = last }) result new
  pub later : OnOk result (last.cycle < new.joint.cycle)
