use Rattle.law_wires_agree.proofs.Looked.{all_cut}
use Rattle.law_wires_agree.proofs.cut_tick.Goals as goal

pub returns : goal.returns
returns c = record { cut = all_cut }
