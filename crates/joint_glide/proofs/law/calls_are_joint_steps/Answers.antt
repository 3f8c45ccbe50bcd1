use Rattle.joint_glide.proofs.Stretches.{calls_are_quiet}
use Rattle.joint_glide.proofs.law.calls_are_joint_steps.Goals as goal

pub returns : goal.returns
returns c = record { stretch = calls_are_quiet }
