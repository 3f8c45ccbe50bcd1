use Rattle.std.proofs.Common.{◌≡◌, subst, sym, ◌∙◌}
use Rattle.run_loop.specs.Running.{is_over}
use Rattle.run_loop.proofs.Over.{open_off_tick, over_at_tick}
use Rattle.run_loop.proofs.ending.is_over.Goals as goal

pub returns-then-at_tick : goal.returns-then-at_tick
returns-then-at_tick c = λ s w stop cpu cycle.
    subst (λ e. c.has_reached.result ≡ is_over e s w) (sym c.in-TickStart.is)
    (over_at_tick s w c.args.stop c.cycle.result c.at_tick.result c.has_reached.result
    (c.at_tick.ensures.decides s.edges s.events w cpu) c.if-at_tick.true
    c.has_reached.ensures.reached stop (cycle ∙ sym c.cycle.ensures.cycle))

pub returns-else-at_tick : goal.returns-else-at_tick
returns-else-at_tick c = λ s w stop cpu cycle.
    subst (λ e. c.at_tick.result ≡ is_over e s w) (sym c.in-TickStart.is)
    (c.if-at_tick.false ∙ open_off_tick s w c.at_tick.result (c.at_tick.ensures.decides s.edges s.events w cpu) c.if-at_tick.false)
