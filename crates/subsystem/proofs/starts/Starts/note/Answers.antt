use Rattle.std.proofs.Common.{◌≤◌, sym, ◌∙◌, arith}
use Rattle.subsystem.proofs.Reporters.{none_noted, one_noted}
use Rattle.subsystem.proofs.starts.Starts.note.Goals as goal

pub overflow_sub-cycle : goal.overflow_sub-cycle
overflow_sub-cycle c =
    let late = c.requires.late in
    let w = late.1 in
    let early : 4096 ≤ w.cycle = late.4 (sym (c.at_tick.ensures.decides late.0.edges late.0.events w late.2) ∙ c.if-at_tick.true) in
    let same = late.3 in
    let cycle = c.cycle.ensures.cycle in
    omega (arith, early, same, cycle)

pub returns-in_ok-push-clause-noted : goal.returns-in_ok-push-clause-noted
returns-in_ok-push-clause-noted c = λ s w cpu cycle.
    c.in_ok-push.ensures.items
    ∙ one_noted s w c.at_tick.result c.args.self.now.stamps.items c.cycle.result
    (c.at_tick.ensures.decides s.edges s.events w cpu) c.if-at_tick.true
    (cycle ∙ sym c.cycle.ensures.cycle)

pub returns-else-at_tick-clause-noted : goal.returns-else-at_tick-clause-noted
returns-else-at_tick-clause-noted c = λ s w cpu cycle.
    none_noted s w c.at_tick.result c.args.self.now.stamps.items (c.at_tick.ensures.decides s.edges s.events w cpu) c.if-at_tick.false
