use Rattle.host_turn.proofs.Going.{going_desk, going_items}
use Rattle.host_turn.proofs.Keeps.{host_fits, kept_before, begun_before}
use Rattle.host_turn.proofs.desk.Desk.go_on.Goals as goal

pub returns-clause-desk : goal.returns-clause-desk
returns-clause-desk g c =
    going_desk g.F.Passing.breaks c.args.now c.args.next c.args.self.now c.do_event-done.new.self c.interrupt.new.self
    c.do_event-done.ensures.desk c.interrupt.ensures.desk
    c.break_off.new.self c.break_off.ensures.port c.settle-did.new.self c.settle-did.ensures.port

pub returns-clause-items : goal.returns-clause-items
returns-clause-items g c =
    going_items g.F.Passing.breaks c.args.now c.args.next c.args.self.now c.do_event-done.new.self
    c.interrupt.new.self c.do_event-done.ensures.desk c.interrupt.ensures.desk
    c.break_off.new.self c.break_off.ensures.port
    c.args.items.now.items c.do_event-done.new.items.items c.interrupt.new.items.items c.say_did.new.items.items c.settle-did.result
    c.do_event-done.ensures.items c.interrupt.ensures.items c.settle-did.ensures.did c.say_did.ensures.items

pub returns-clause-empty : goal.returns-clause-empty
returns-clause-empty g c = λ f.
    c.settle-did.ensures.empty
    (c.break_off.ensures.empty
    (host_fits g.row.F.Denot c.args.now c.args.next c.args.self.now c.do_event-done.new.self c.interrupt.new.self
    c.do_event-done.ensures.desk c.interrupt.ensures.desk f))

pub returns-clause-pull_kept : goal.returns-clause-pull_kept
returns-clause-pull_kept g c =
    kept_before g.row.F.Denot c.args.now c.args.next c.args.self.now c.do_event-done.new.self c.interrupt.new.self
    c.do_event-done.ensures.desk c.interrupt.ensures.desk
    g.F.Passing.breaks c.break_off.new.self c.break_off.ensures.port c.settle-did.new.self.link c.settle-did.ensures.pull_kept

pub returns-clause-pull_begins : goal.returns-clause-pull_begins
returns-clause-pull_begins g c =
    begun_before g.row.F.Denot c.args.now c.args.next c.args.self.now c.do_event-done.new.self c.interrupt.new.self
    c.do_event-done.ensures.desk c.interrupt.ensures.desk
    g.F.Passing.breaks c.break_off.new.self c.break_off.ensures.port c.settle-did.new.self.link c.settle-did.ensures.pull_begins
