use Rattle.law_wires_agree.proofs.Turned.{flips_seen}
use Rattle.law_wires_agree.proofs.flips_seen.Goals as goal

pub returns : goal.returns
returns c = record { seen = flips_seen }
