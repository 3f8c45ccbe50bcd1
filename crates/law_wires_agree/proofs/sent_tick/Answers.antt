use Rattle.law_wires_agree.proofs.Looked.{all_sent}
use Rattle.law_wires_agree.proofs.sent_tick.Goals as goal

pub returns : goal.returns
returns c = record { sent = all_sent }
