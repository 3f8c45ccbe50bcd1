use Rattle.std.proofs.Common.{ap, sym, ◌∙◌}
use Rattle.model_controller.specs.ByteTime.{carried}
use Rattle.model_link.proofs.running.Running.carry.Goals as goal

pub returns-in_ok-hand-in-Got-clause-side : goal.returns-in_ok-hand-in-Got-clause-side
returns-in_ok-hand-in-Got-clause-side c =
    c.in_ok-hand-in-Got.ensures c.in-Got.field-0
    ∙ ap (λ m. carried c.args.events.now m c.args.now c.args.self.now) (sym c.in-Got.is)
