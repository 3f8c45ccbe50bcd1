use Rattle.law_live_agrees.proofs.Agreed as agreed
use Rattle.law_live_agrees.proofs.never_stuck.Goals as goal

pub returns : goal.returns
returns c = record { goes_on = agreed.never_stuck c.any_keys.ensures.never_stops }
