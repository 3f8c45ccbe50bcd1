use Rattle.law_live_heard.proofs.Items.{bytes_heard, bytes_passed}
use Rattle.law_live_heard.proofs.items_are_heard.Goals as goal

pub returns : goal.returns
returns c = record { passed = bytes_passed; heard = bytes_heard c.wires_are_heard.ensures.any_memory }
