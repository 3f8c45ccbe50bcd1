use Rattle.law_any_host.proofs.Heard.{ruleful}
use Rattle.law_any_host.proofs.hears_each.Goals as goal

pub returns : goal.returns
returns c = record { ruleful = ruleful }
