use Rattle.std.proofs.Common.{sym, ◌∙◌, ap}
use Rattle.live_board.proofs.LastBit.{ended_is}
use Rattle.live_board.specs.Passing.{ended_by}
use Rattle.live_board.proofs.passing.ended_by.Goals as goal

pub returns-else-not-lack_one : goal.returns-else-not-lack_one
returns-else-not-lack_one c =
    ended_is c.in-Recv.field-0 _ c.ended_by-frame.result.bits c.lack_one.result c.value.result c.lack_one.ensures.lack
    c.if-not-lack_one.false
    c.ended_by-frame.ensures.bits c.value.ensures.value
    ∙ ap ended_by (sym c.in-Recv.is)
