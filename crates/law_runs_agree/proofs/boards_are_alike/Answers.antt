use Rattle.run_program.proofs.Alike.{boards_alike}
use Rattle.law_runs_agree.proofs.boards_are_alike.Goals as goal

pub returns : goal.returns
returns c = record { alike = boards_alike }
