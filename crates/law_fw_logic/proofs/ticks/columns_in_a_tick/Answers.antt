use Rattle.law_fw_logic.proofs.FromStart.{reading_law}
use Rattle.law_fw_logic.proofs.ticks.columns_in_a_tick.Goals as goal

pub returns : goal.returns
returns c = record { columns = reading_law }
