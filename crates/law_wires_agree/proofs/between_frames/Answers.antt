use Rattle.law_wires_agree.proofs.Between.{between}
use Rattle.law_wires_agree.proofs.between_frames.Goals as goal

pub returns : goal.returns
returns c = record { between = between }
