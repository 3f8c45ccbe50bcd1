use Rattle.law_agreement.proofs.AnyRun.{any_keys}
use Rattle.law_agreement.proofs.any_keys.Goals as goal

pub returns : goal.returns
returns c = record { never_stops = any_keys }
