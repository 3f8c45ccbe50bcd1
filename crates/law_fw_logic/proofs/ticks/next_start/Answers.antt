use Rattle.law_fw_logic.proofs.FromStart.{next_law}
use Rattle.law_fw_logic.proofs.ticks.next_start.Goals as goal

pub returns : goal.returns
returns c = record { next = next_law }
