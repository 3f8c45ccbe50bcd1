use Rattle.law_link_times.proofs.Holding.{nothing_else_holds, goes_at_last}
use Rattle.law_link_times.proofs.nothing_waits_for_ever.Goals as goal

pub returns-clause-holds : goal.returns-clause-holds
returns-clause-holds c = nothing_else_holds

pub returns-clause-goes : goal.returns-clause-goes
returns-clause-goes c = goes_at_last
