use Rattle.model_link.proofs.Seen.{seen_once}
use Rattle.model_link.proofs.laws.each_seen_once.Goals as goal

pub returns : goal.returns
returns c = record { once = seen_once }
