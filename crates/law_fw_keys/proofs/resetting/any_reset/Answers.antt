use Rattle.law_fw_logic.specs.Boards.{numbered}
use Rattle.law_fw_keys.proofs.AnyReset.{resets_any}
use Rattle.law_fw_keys.proofs.resetting.any_reset.Goals as goal

pub returns : goal.returns
returns c = record {
  heals = λ bytes has small pins tick low w is fine due. resets_any (numbered pins tick) bytes has small low w is fine due;
}
