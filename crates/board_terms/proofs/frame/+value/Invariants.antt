use Rattle.std.proofs.Common.{length}
use Rattle.board_terms.proofs.frame.+value.Given as goal

abbrev pub decreases-value : goal.decreases-value
decreases-value l = length l.bits.now
