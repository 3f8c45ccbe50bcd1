use Rattle.std.proofs.Common.{refl, subst, ◌∙◌, arith}
use Rattle.io_edge.specs.Said.{IsBrokenOff, IsSaid}
use Rattle.io_edge.proofs.Taken.{on_err}
use Rattle.run_loop.proofs.Texts.{line_cut, line_said}
use Rattle.app_runs.proofs.StartsAreLines.{ends, next_line}
use Rattle.app_runs.proofs.streaming.put_starts.Goals as goal

pub returns-in_err-say-clause-broken : goal.returns-in_err-say-clause-broken
returns-in_err-say-clause-broken g c =
    let n = c.loop-number.number in
    let y = g.K.Sink.shown c.loop-number.out in
    let z = g.K.Sink.shown c.say.new.out in
    on_err c.from_residual.result _
    (line_cut _ y z _ _ _ _ c.loop-number.invariant (next_line n c.args.starts.now _ (omega arith) refl) (ends n _)
    (subst (IsBrokenOff y z) (c.deref.ensures.0 ∙ c.start_line.ensures) c.in_err-say.ensures.broken))

pub loop-number-preserved : goal.loop-number-preserved
loop-number-preserved g c =
    let n = c.loop-number.number in
    let y = g.K.Sink.shown c.loop-number.out in
    let z = g.K.Sink.shown c.say.new.out in
    line_said _ y z _ _ _ _ c.loop-number.invariant (next_line n c.args.starts.now _ (omega arith) refl) (ends n _)
    (subst (IsSaid y z) (c.deref.ensures.0 ∙ c.start_line.ensures) c.in_ok-say.ensures.said)
