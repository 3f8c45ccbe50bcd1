use Rattle.std.proofs.Common.{rules}
use Rattle.kbd48_c.specs.Exports.{HasRunFor}
use Rattle.kbd48_c.proofs.Through.{through_call}
use Rattle.kbd48_c.proofs.going.kbd48_run.Goals as goal

pub returns-in-Some-clause-gone : goal.returns-in-Some-clause-gone
returns-in-Some-clause-gone c =
    through_call (HasRunFor c.args.cycles c.args.watched c.go-status.new.passed c.args.spot.now c.go-status.new.spot)
    c.args.handle.now.keyboard
    c.holding.result.keyboard c.go-status.result c.deref_mut.result.now c.in-Some.keyboard.value c.go-status.new.keyboard (search rules)
    c.deref_mut.ensures.value c.in-Some.ensures.taken c.holding.ensures c.go-status.ensures.gone
