use Rattle.std.proofs.Common.{rules, subst}
use Rattle.live_board.specs.declared.stops.Stops.{Stops}
use Rattle.kbd48_c.specs.Stopping.{HasRunTo, stops_of}
use Rattle.kbd48_c.proofs.Through.{through_call}
use Rattle.kbd48_c.proofs.stopping.kbd48_run_to.Goals as goal

pub returns-in-Some-clause-gone : goal.returns-in-Some-clause-gone
returns-in-Some-clause-gone c =
    through_call
    (HasRunTo (stops_of c.args.mask c.args.at) c.args.cycles c.args.steps c.go_to-status.new.met c.go_to-status.new.passed
    c.args.spot.now c.go_to-status.new.spot)
    c.args.handle.now.keyboard
    c.holding.result.keyboard c.go_to-status.result c.deref_mut.result.now c.in-Some.keyboard.value c.go_to-status.new.keyboard (search rules)
    c.deref_mut.ensures.value c.in-Some.ensures.taken c.holding.ensures
    (subst (λ (s : Stops). HasRunTo s c.args.cycles c.args.steps c.go_to-status.new.met c.go_to-status.new.passed c.args.spot.now
    c.go_to-status.new.spot c.deref_mut.result.now c.go_to-status.result c.go_to-status.new.keyboard)
    c.stops_of-stops.ensures c.go_to-status.ensures.gone)
