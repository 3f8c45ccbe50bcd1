use Rattle.std.proofs.Common.{length}
use Rattle.run_probes.proofs.resting.+rest.Given as goal

abbrev pub decreases-rest : goal.decreases-rest
decreases-rest g l = length l.probes.now
