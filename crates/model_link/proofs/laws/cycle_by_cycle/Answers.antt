use Rattle.model_link.proofs.Cycles.{each_cycle}
use Rattle.model_link.proofs.laws.cycle_by_cycle.Goals as goal

pub returns : goal.returns
returns c = record { cycles = each_cycle }
