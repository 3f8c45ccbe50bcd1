use Rattle.live_board.proofs.Growing.{grows}
use Rattle.live_board.proofs.law.stories_grow_at_end.Goals as goal

pub returns : goal.returns
returns c = record { grows = grows }
