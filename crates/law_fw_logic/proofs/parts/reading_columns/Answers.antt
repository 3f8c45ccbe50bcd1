use Rattle.law_fw_logic.specs.Boards.{numbered}
use Rattle.law_fw_logic.proofs.BlockLaws.{columns_law}
use Rattle.law_fw_logic.proofs.parts.reading_columns.Goals as goal

pub returns : goal.returns
returns c = record {
  columns = λ bytes has pins tick w at r0 r1 r3 p1. columns_law (numbered pins tick) bytes has w at r0 r1 r3 p1;
}
