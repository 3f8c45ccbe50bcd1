use Rattle.std.proofs.Common.{◌≡◌, false, subst, sym}
use Rattle.fw_ticks.specs.JointRun.{DecidesTick}
use Rattle.run_loop.specs.Answers.{MeetsNoTick}
use Rattle.run_loop.specs.Running.{is_over}
use Rattle.run_loop.proofs.Over.{open_off_tick}
use Rattle.run_loop.proofs.ending.must_halt.Goals as goal

pub returns-in-TickStart-clause-open : goal.returns-in-TickStart-clause-open
returns-in-TickStart-clause-open c = λ off s w stop cpu cycle.
    subst (λ e. false ≡ is_over e s w) (sym c.in-TickStart.is)
    (open_off_tick s w c.at_tick.result (c.at_tick.ensures.decides s.edges s.events w cpu) off)

pub returns-in-TickStart-clause-no_tick : goal.returns-in-TickStart-clause-no_tick
returns-in-TickStart-clause-no_tick c = λ off.
    subst (λ e. MeetsNoTick e c.args.joint.now) (sym c.in-TickStart.is)
    (subst (λ b. DecidesTick c.args.joint.now b) off c.at_tick.ensures.decides)
