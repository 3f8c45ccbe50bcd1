use Rattle.law_wires_agree.proofs.Lasting.{pulls_last}
use Rattle.law_wires_agree.proofs.pulls_last.Goals as goal

pub returns : goal.returns
returns c = record { pulls = pulls_last }
