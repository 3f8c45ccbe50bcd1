use Rattle.ctl_link.proofs.Settled.{empty_after, pull_kept, pull_begun}
use Rattle.ctl_link.proofs.port.LinkEnd.settle.Goals as goal

pub returns-clause-empty : goal.returns-clause-empty
returns-clause-empty g c =
    empty_after g.row.F.Denot c.args.now c.args.self.now c.take_input-did.new.self c.move_link.new.self
    c.take_input-did.ensures.port c.move_link.ensures

pub returns-clause-pull_kept : goal.returns-clause-pull_kept
returns-clause-pull_kept g c =
    pull_kept g.row.F.Denot c.args.now c.args.self.now c.take_input-did.new.self c.move_link.new.self
    c.take_input-did.ensures.port c.move_link.ensures

pub returns-clause-pull_begins : goal.returns-clause-pull_begins
returns-clause-pull_begins g c =
    pull_begun g.row.F.Denot c.args.now c.args.self.now c.take_input-did.new.self c.move_link.new.self
    c.take_input-did.ensures.port c.move_link.ensures
