use Rattle.std.proofs.Common.{length}
use Rattle.capture_frames.proofs.frame_bits.+value.Given as goal

abbrev pub decreases-value : goal.decreases-value
decreases-value l = length l.bits.now
