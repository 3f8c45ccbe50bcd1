use Rattle.law_capture_heard.proofs.FoundAll.{every_byte}
use Rattle.law_capture_heard.proofs.bytes_are_found.Goals as goal

pub returns : goal.returns
returns c = record { found = every_byte }
