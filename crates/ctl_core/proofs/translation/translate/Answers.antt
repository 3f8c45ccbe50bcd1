use Rattle.std.proofs.Common.{◌≡◌, ◌∙◌, ◌<◌, false, eqb, refl, arith}
use Rattle.std.proofs.lemmas.Bool.Decides.{nat_tests}
use Rattle.ctl_core.specs.ScanCodes.{translated, scan_codes}
use Rattle.ctl_core.proofs.Codes.{tabled}
use Rattle.ctl_core.proofs.translation.translate.Goals as goal

pub returns-in-131 : goal.returns-in-131
unfolding translated scan_codes
returns-in-131 c = record { code = rw c.in-131.is refl }

pub returns-in-132 : goal.returns-in-132
unfolding translated scan_codes
returns-in-132 c = record { code = rw c.in-132.is refl }

pub returns-in_default : goal.returns-in_default
returns-in_default c =
    let fits : c.args.byte < 256 = omega arith in
    let first : eqb c.args.byte 131 ≡ false = grind (arith, nat_tests) in
    let second : eqb c.args.byte 132 ≡ false = grind (arith, nat_tests) in
    record { code = c.entry_at.ensures ∙ tabled c.args.byte fits first second }
