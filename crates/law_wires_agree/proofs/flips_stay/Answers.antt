use Rattle.law_wires_agree.proofs.Pending.{flips_stay}
use Rattle.law_wires_agree.proofs.flips_stay.Goals as goal

pub returns : goal.returns
returns c = record { stay = flips_stay }
