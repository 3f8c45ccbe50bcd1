use Rattle.law_fw_logic.specs.Boards.{numbered}
use Rattle.law_fw_logic.proofs.BlockLaws.{lamps_law}
use Rattle.law_fw_logic.proofs.parts.putting_lights.Goals as goal

pub returns : goal.returns
returns c = record { lights = λ bytes has pins tick w at. lamps_law (numbered pins tick) bytes has w at }
