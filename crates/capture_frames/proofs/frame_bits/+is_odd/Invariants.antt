use Rattle.std.proofs.Common.{length}
use Rattle.capture_frames.proofs.frame_bits.+is_odd.Given as goal

abbrev pub decreases-is_odd : goal.decreases-is_odd
decreases-is_odd l = length l.bits.now
