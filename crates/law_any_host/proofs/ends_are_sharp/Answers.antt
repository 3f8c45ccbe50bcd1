use Rattle.law_any_host.proofs.Sharp.{sharp}
use Rattle.law_any_host.proofs.ends_are_sharp.Goals as goal

pub returns : goal.returns
returns c = record { sharp = sharp }
