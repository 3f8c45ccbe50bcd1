use Rattle.law_wires_agree.proofs.Start.{waits_for_stamp_0}
use Rattle.law_wires_agree.proofs.stamp_zero_first.Goals as goal

pub returns : goal.returns
returns c = record { first = waits_for_stamp_0 }
