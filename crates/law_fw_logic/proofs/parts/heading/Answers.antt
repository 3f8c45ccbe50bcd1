use Rattle.law_fw_logic.specs.Boards.{numbered}
use Rattle.law_fw_logic.proofs.HeadLaw.{head_law}
use Rattle.law_fw_logic.proofs.parts.heading.Goals as goal

pub returns : goal.returns
returns c = record { head = λ bytes has pins tick w at run few. head_law (numbered pins tick) bytes has w at run few }
