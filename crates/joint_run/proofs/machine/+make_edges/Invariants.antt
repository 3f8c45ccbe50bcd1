use Rattle.std.proofs.Common.{length}
use Rattle.joint_run.proofs.machine.+make_edges.Given as goal

abbrev pub decreases-make_edges : goal.decreases-make_edges
decreases-make_edges l = length l.edges.now
