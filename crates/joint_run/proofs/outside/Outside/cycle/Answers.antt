use Rattle.ctl_wire.specs.Wire.{is_breakable}
use Rattle.host_turn.specs.Cycle.{cycled}
use Rattle.joint_run.proofs.Cycling.{outside_is, items_are, done_is}
use Rattle.joint_run.proofs.outside.Outside.cycle.Goals as goal

pub returns-clause-outside : goal.returns-clause-outside
returns-clause-outside c =
    outside_is (cycled is_breakable c.args.now c.args.next) c.args.now c.args.p2 c.args.self.now c.show.new.self
    c.look.new.self c.show.ensures.shown c.look.ensures.outside
    c.go_on.new.self c.go_on.ensures.outside

pub returns-clause-items : goal.returns-clause-items
returns-clause-items c =
    items_are (cycled is_breakable c.args.now c.args.next) c.args.now c.args.p2 c.args.self.now c.show.new.self
    c.look.new.self c.show.ensures.shown c.look.ensures.outside
    c.args.items.now.items c.show.new.items.items c.go_on.new.items.items c.show.ensures.said c.go_on.ensures.items

pub returns-clause-done : goal.returns-clause-done
returns-clause-done c =
    done_is (cycled is_breakable c.args.now c.args.next) c.args.now c.args.p2 c.args.self.now c.show.new.self
    c.look.new.self c.show.ensures.shown c.look.ensures.outside
    c.go_on.result c.go_on.ensures.done
