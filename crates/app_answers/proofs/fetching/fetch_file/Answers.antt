use Rattle.std.proofs.Common.{arith}
use Rattle.app_answers.proofs.ShelvesGive.{gives_found, gives_lacking}
use Rattle.app_answers.proofs.fetching.fetch_file.Goals as goal

pub returns-in-Ok-clause-gives : goal.returns-in-Ok-clause-gives
returns-in-Ok-clause-gives g c =
    gives_found c.args.kind _ _ _ c.in-Ok.file c.limit.ensures.limit c.in-Ok.ensures.in_memory (omega (arith, c.in-Ok.ensures.size))

pub returns-in-Err-Memory-clause-gives : goal.returns-in-Err-Memory-clause-gives
returns-in-Err-Memory-clause-gives g c =
    gives_lacking c.args.kind _ _ _ c.limit.ensures.limit (rw c.in-Err-Memory.field-0-is at c.in-Err-Memory.ensures.in_memory)
