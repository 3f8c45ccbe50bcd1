use Rattle.std.proofs.Common.{subst}
use Rattle.joint_run.specs.Due.{due_step, with_seen, IsJointStep}
use Rattle.joint_run.proofs.OneStep.{are_few_seen, step_of_run}
use Rattle.joint_run.proofs.joint.Joint.step_inlined.Goals as goal

pub returns-clause-run : goal.returns-clause-run
returns-clause-run g c =
    step_of_run c.args.due.now c.args.self.now (with_seen c.step.result c.step.new.seen) c.step.new.self
    (subst (λ m. IsJointStep c.args.due.now m (due_step c.args.due.now m) (with_seen c.step.result c.step.new.seen) c.step.new.self)
    c.self.view_is c.step.ensures.step)
    (are_few_seen c.step.result c.step.new.seen c.step.ensures.some c.step.ensures.few)
