use Rattle.law_wires_agree.proofs.Pulls.{while_pulled}
use Rattle.law_wires_agree.proofs.while_pulled.Goals as goal

pub returns : goal.returns
returns c = record { pulled = while_pulled }
