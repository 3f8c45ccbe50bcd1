use Rattle.live_board.proofs.Starting.{opened_so, past_so}
use Rattle.live_board.proofs.parts.Parts.open.Goals as goal

pub returns-clause-opened : goal.returns-clause-opened
returns-clause-opened c =
    opened_so c.args.fill c.power_on-parts.result.joint.image.bytes c.args.image.now.bytes c.begin.new.self
    c.power_on-parts.ensures.image (c.begin.ensures.opened c.args.fill c.power_on-parts.ensures.first)

pub returns-clause-has_past : goal.returns-clause-has_past
returns-clause-has_past c =
    past_so c.args.fill c.power_on-parts.result.joint.image.bytes c.args.image.now.bytes c.begin.new.self
    c.power_on-parts.ensures.image (c.begin.ensures.has_past c.args.fill c.power_on-parts.ensures.first)
