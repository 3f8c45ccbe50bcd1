use Rattle.law_wires_agree.proofs.Looked.{all_still}
use Rattle.law_wires_agree.proofs.still_tick.Goals as goal

pub returns : goal.returns
returns c = record { still = all_still }
