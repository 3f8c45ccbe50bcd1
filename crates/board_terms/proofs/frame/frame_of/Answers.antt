use Rattle.board_terms.proofs.Frames.{framed}
use Rattle.board_terms.proofs.frame.frame_of.Goals as goal

pub returns-clause-read_back : goal.returns-clause-read_back
returns-clause-read_back c =
    framed c.data_of.result c.is_odd-parity.result c.args.byte c.ranges.byte.fits c.data_of.ensures c.is_odd-parity.ensures
