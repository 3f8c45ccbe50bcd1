use Rattle.fw_kernel.specs.declared.bytes.TheConstants.{KERNEL}
use Rattle.law_fw_logic.specs.Boards.{numbered}
use Rattle.law_fw_keys.proofs.Begun.{any_start}
use Rattle.law_fw_keys.proofs.Bare.{itself, silent, small_kernel}
use Rattle.law_fw_keys.proofs.PowerOn.{starts}
use Rattle.law_fw_keys.proofs.FramelessTick.{frameless_tick}
use Rattle.law_fw_keys.proofs.frameless_ticks.bare_kernel.Goals as goal

pub returns : goal.returns
returns c = record {
  powers_on = λ pins tick m board fine low. starts (numbered pins tick) KERNEL itself small_kernel low m fine board;
  frameless = λ pins tick low w s repeats few meeting q. frameless_tick (numbered pins tick) KERNEL itself silent
      small_kernel low w
      (any_start w.cpu s) s few repeats meeting q;
}
