use Rattle.std.proofs.Common.{length}
use Rattle.live_board.proofs.passing.+value.Given as goal

abbrev pub decreases-value : goal.decreases-value
decreases-value l = length l.bits.now
