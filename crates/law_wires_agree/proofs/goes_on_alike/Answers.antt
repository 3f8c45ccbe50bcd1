use Rattle.law_wires_agree.proofs.Same.{in_bytes_same}
use Rattle.law_wires_agree.proofs.goes_on_alike.Goals as goal

pub returns : goal.returns
returns c = record { alike = in_bytes_same }
