use Rattle.law_fw_logic.specs.Boards.{numbered}
use Rattle.law_fw_keys.proofs.Begun.{any_start}
use Rattle.law_fw_keys.proofs.FramelessTick.{frameless_tick}
use Rattle.law_fw_keys.proofs.frameless_ticks.every_frameless_tick.Goals as goal

pub returns : goal.returns
returns c = record {
  frameless = λ bytes has alike small pins tick low w s repeats few meeting q. frameless_tick
      (numbered pins tick) bytes has alike small low w (any_start w.cpu s) s few repeats meeting q;
}
