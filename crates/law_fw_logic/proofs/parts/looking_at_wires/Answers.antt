use Rattle.law_fw_logic.specs.Boards.{numbered}
use Rattle.law_fw_logic.proofs.BlockLaws.{looks_law}
use Rattle.law_fw_logic.proofs.parts.looking_at_wires.Goals as goal

pub returns : goal.returns
returns c = record { looks = λ bytes has pins tick w at. looks_law (numbered pins tick) bytes has w at }
