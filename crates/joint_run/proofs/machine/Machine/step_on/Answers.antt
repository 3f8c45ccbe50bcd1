use Rattle.std.proofs.Common.{◌≡◌, Ok, ap, sym, subst, ◌∙◌}
use Rattle.mcs48_core.specs.Step.{stepped, IsStep}
use Rattle.joint_run.specs.Due.{ended, machine_after, IsSeen}
use Rattle.joint_run.specs.Edgeless.{without_edges}
use Rattle.joint_run.proofs.Ending.{seen_by}
use Rattle.joint_run.proofs.Stepping.{by_step, came}
use Rattle.joint_run.proofs.machine.Machine.step_on.Goals as goal

pub returns-clause-step : goal.returns-clause-step
returns-clause-step g c =
    let m = c.args.self.now in
    let rest = without_edges c.args.due.now in
    let cpu = c.step_processor.new.self.mcu in
    let count = sym c.end_step.ensures.cycles in
    by_step rest m c.end_step.new.seen c.end_step.new.self cpu c.pins-given.result c.pins-given.ensures
    (subst (λ k. IsStep m.image.bytes m.mcu (stepped m.image.bytes c.pins-given.result m.mcu) (Ok k) cpu) count c.in_ok-cycles.ensures.step)
    (subst (λ k. c.end_step.new.self ≡ machine_after rest m (came rest m k cpu)) count
    (c.end_step.ensures.ended
    ∙ ap (λ x. machine_after rest x (ended c.in_ok-cycles.cycles c.args.due.now x)) c.step_processor.ensures.parts))
    (subst (λ k. IsSeen rest m (came rest m k cpu) c.end_step.new.seen) count
    (seen_by m cpu c.in_ok-cycles.cycles c.args.due.now c.step_processor.new.self c.end_step.new.seen
    c.step_processor.ensures.parts c.end_step.ensures.seen))
