use Rattle.law_agreement.proofs.Run.{every_wire}
use Rattle.law_agreement.proofs.wires_are_driven.Goals as goal

pub returns : goal.returns
returns c = record { wires = every_wire }
