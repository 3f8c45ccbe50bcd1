use Rattle.std.proofs.Common.{ap}
use Rattle.joint_run.specs.declared.machine.Machine.{Machine}
use Rattle.live_board.proofs.Starting.{at_start, opened_so, past_so}
use Rattle.live_board.proofs.parts.Parts.switch_on.Goals as goal

pub returns-clause-opened : goal.returns-clause-opened
returns-clause-opened c =
    let parts = c.switch_on.ensures.parts in
    let bytes = c.args.self.now.joint.image.bytes in
    opened_so c.args.fill c.switch_on.new.self.image.bytes bytes c.begin.new.self (ap (λ (m : Machine). m.image.bytes) parts)
    (c.begin.ensures.opened c.args.fill
    (at_start c.args.fill bytes _ parts c.switch_on.ensures.run c.new.ensures c.new-2.ensures c.nothing-self-2.ensures))

pub returns-clause-has_past : goal.returns-clause-has_past
returns-clause-has_past c =
    let parts = c.switch_on.ensures.parts in
    let bytes = c.args.self.now.joint.image.bytes in
    past_so c.args.fill c.switch_on.new.self.image.bytes bytes c.begin.new.self (ap (λ (m : Machine). m.image.bytes) parts)
    (c.begin.ensures.has_past c.args.fill
    (at_start c.args.fill bytes _ parts c.switch_on.ensures.run c.new.ensures c.new-2.ensures c.nothing-self-2.ensures))
