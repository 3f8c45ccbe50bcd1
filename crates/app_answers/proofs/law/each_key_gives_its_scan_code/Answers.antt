use Rattle.app_answers.proofs.KeysGiveCodes.{each_gives}
use Rattle.app_answers.proofs.law.each_key_gives_its_scan_code.Goals as goal

pub returns : goal.returns
returns c = record { scan_codes = each_gives }
