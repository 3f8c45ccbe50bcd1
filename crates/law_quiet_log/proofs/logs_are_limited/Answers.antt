use Rattle.law_quiet_log.proofs.Length.{length_law, limit_law}
use Rattle.law_quiet_log.proofs.logs_are_limited.Goals as goal

pub returns-clause-length : goal.returns-clause-length
returns-clause-length c = length_law

pub returns-clause-limit : goal.returns-clause-limit
returns-clause-limit c = limit_law
