use Rattle.law_wires_agree.proofs.Looked.{all_got}
use Rattle.law_wires_agree.proofs.got_tick.Goals as goal

pub returns : goal.returns
returns c = record { got = all_got }
