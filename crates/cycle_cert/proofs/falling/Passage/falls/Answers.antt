-- Where both registers are one, and where they are two.
use Rattle.std.proofs.Common.{◌∙◌, ap}
use Rattle.std.specs.List.{list_all}
use Rattle.cycle_cert.specs.Bounds.{byte_values}
use Rattle.cycle_cert.specs.Falling.{falls_at}
use Rattle.cycle_cert.proofs.FallsLemmas.{falls_on_one, falls_beside}
use Rattle.cycle_cert.proofs.falling.Passage.falls.Goals as goal

pub returns-then-self : goal.returns-then-self
returns-then-self c = c.falls_on_one.ensures ∙ falls_on_one c.args.self.now c.if-self.true

pub returns-else-self : goal.returns-else-self
returns-else-self c =
    c.falls_beside.ensures ∙ ap (λ first. list_all (falls_at c.args.self.now first) byte_values) c.lightest.ensures
    ∙ falls_beside c.args.self.now c.if-self.false
