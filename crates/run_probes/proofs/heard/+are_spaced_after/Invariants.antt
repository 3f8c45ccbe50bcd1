use Rattle.std.proofs.Common.{length}
use Rattle.run_probes.proofs.heard.+are_spaced_after.Given as goal

abbrev pub decreases-are_spaced_after : goal.decreases-are_spaced_after
decreases-are_spaced_after l = length l.falls.now
