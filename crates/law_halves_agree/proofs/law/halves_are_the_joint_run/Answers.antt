use Rattle.std.proofs.Common.{refl}
use Rattle.law_halves_agree.proofs.Steps.{run_is, step_is}
use Rattle.law_halves_agree.proofs.Turns.{turn_is}
use Rattle.law_halves_agree.proofs.law.halves_are_the_joint_run.Goals as goal

pub returns : goal.returns
returns c = record {
  begin = λ fill program. refl;
  step = λ keys events program w. step_is keys events program w;
  run = λ fill edges events program n. run_is edges events program fill n;
  act = λ now next c s may. turn_is now next c s may;
}
