use Rattle.law_wires_agree.proofs.Got.{frame_shown}
use Rattle.law_wires_agree.proofs.frame_shown.Goals as goal

pub returns : goal.returns
returns c = record { shown = frame_shown }
