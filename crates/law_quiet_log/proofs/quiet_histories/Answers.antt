use Rattle.law_quiet_log.proofs.Ran.{even_law, quiet_law, listed_law}
use Rattle.law_quiet_log.proofs.quiet_histories.Goals as goal

pub returns-clause-even : goal.returns-clause-even
returns-clause-even c = even_law

pub returns-clause-starts : goal.returns-clause-starts
returns-clause-starts c = quiet_law

pub returns-clause-listed : goal.returns-clause-listed
returns-clause-listed c = listed_law
