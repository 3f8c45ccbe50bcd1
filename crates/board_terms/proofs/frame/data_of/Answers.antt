use Rattle.board_terms.proofs.Frames.{masks_give}
use Rattle.board_terms.proofs.frame.data_of.Goals as goal

pub returns : goal.returns
returns c = masks_give c.args.byte c.ranges.byte.fits
