use Rattle.app_answers.proofs.StepsGoOn.{stopped_after}
use Rattle.app_answers.proofs.stepping.run.Goals as goal

pub returns-in-Err : goal.returns-in-Err
returns-in-Err c = record { ran = stopped_after _ _ _ _ _ _ _ c.loop-step-test.true c.loop-step.invariant.0 c.in-Err.ensures.step }
