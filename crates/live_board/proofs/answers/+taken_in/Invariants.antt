use Rattle.std.proofs.Common.{length}
use Rattle.live_board.proofs.answers.+taken_in.Given as goal

abbrev pub decreases-taken_in : goal.decreases-taken_in
decreases-taken_in l = length l.items.now
