use Rattle.law_agreement.proofs.AnyStart.{as_shown, from_any_start}
use Rattle.law_agreement.proofs.FewShown.{thin_shows_few}
use Rattle.law_agreement.proofs.goes_on_from_any_start.Goals as goal

pub returns : goal.returns
returns c = record { from_any_start = from_any_start; as_shown = as_shown; thin = thin_shows_few }
