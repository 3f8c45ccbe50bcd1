use Rattle.law_runs_agree.proofs.RunsAlike.{runs_alike}
use Rattle.law_runs_agree.proofs.runs_are_alike.Goals as goal

pub returns : goal.returns
returns c = record { alike = runs_alike }
