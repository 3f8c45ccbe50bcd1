-- The table with one more place.
use Rattle.std.proofs.Common.{◌≡◌, None, ◌∙◌, ap}
use Rattle.cycle_cert.specs.Certificates.{bound_in}
use Rattle.cycle_cert.proofs.TableLemmas.{IsTable-add}
use Rattle.cycle_cert.proofs.certificate.Table.add.Goals as goal

pub invariant_of-self-2 : goal.invariant_of-self-2
invariant_of-self-2 c =
    let seen = c.self.view_is in
    let fresh : bound_in c.self.inside.entries.items c.args.entry.place
    ≡ None = ap (λ es. bound_in es c.args.entry.place) seen ∙ c.requires.fresh in
    rw (c.in_ok-push.ensures.items, c.from.ensures)
    (IsTable-add c.self.inside.entries.items c.self.inside.bounds.items c.args.entry c.self.invariant
    c.requires.within c.requires.register fresh)
