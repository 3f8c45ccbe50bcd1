use Rattle.live_board.proofs.Starting.{at_start}
use Rattle.live_board.proofs.parts.Parts.power_on.Goals as goal

pub returns-clause-first : goal.returns-clause-first
returns-clause-first c =
    at_start c.args.fill c.args.image.now.bytes _ c.power_on_filled.ensures.parts c.power_on_filled.ensures.run c.new.ensures
    c.new-2.ensures c.nothing-2.ensures
