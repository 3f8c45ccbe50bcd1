use Rattle.law_live_agrees.proofs.Agreed.{logs_are_shown}
use Rattle.law_live_agrees.proofs.bounces_agree.Goals as goal

pub returns : goal.returns
returns c = record { shown = logs_are_shown c.goes_by_its_columns.ensures.any_count }
