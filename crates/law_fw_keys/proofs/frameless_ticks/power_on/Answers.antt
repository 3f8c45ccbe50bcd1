use Rattle.law_fw_logic.specs.Boards.{numbered}
use Rattle.law_fw_keys.proofs.PowerOn.{starts, from_zero}
use Rattle.law_fw_keys.proofs.frameless_ticks.power_on.Goals as goal

pub returns : goal.returns
returns c = record {
  powers_on = λ bytes has small pins tick m board fine low. starts (numbered pins tick) bytes has small low m fine
      board;
  restarts = λ bytes has small pins tick m board fine low high zero released silent none.
      from_zero (numbered pins tick) bytes has small low m fine board high zero released silent none;
}
