use Rattle.std.proofs.Common.{Bool, false, sym, subst, true}
use Rattle.std.specs.Prelude.{IfOk, OnErr}
use Rattle.std.proofs.lemmas.Result.{IfOk-weaker, on_err_weaker}
use Rattle.io_edge.specs.Said.{IsSaid}
use Rattle.run_wires.specs.Trace.{trace_to}
use Rattle.run_program.specs.Tracing.{IsTraceBrokenOff}
use Rattle.run_program.proofs.BrokenOff.{trace_broken_off}
use Rattle.run_program.proofs.Ends.{has_ended}
use Rattle.run_program.proofs.board.trace_to.Goals as goal

pub returns-then-seen-clause-run : goal.returns-then-seen-clause-run
returns-then-seen-clause-run g c = IfOk-weaker c.put_trace.result _ _ (has_ended c.args.run) c.put_trace.ensures.finished

pub returns-then-seen-clause-said : goal.returns-then-seen-clause-said
returns-then-seen-clause-said g c =
    let x = g.K.Sink.shown c.args.out.now in
    let y = g.K.Sink.shown c.put_trace.new.out in
    subst (λ (b : Bool). IfOk c.put_trace.result (λ made. IsSaid x y (trace_to b c.args.run made.joint.steps))) (sym c.if-seen.true)
    c.put_trace.ensures.said

pub returns-then-seen-clause-broken : goal.returns-then-seen-clause-broken
returns-then-seen-clause-broken g c =
    let x = g.K.Sink.shown c.args.out.now in
    let y = g.K.Sink.shown c.put_trace.new.out in
    subst (λ (b : Bool). OnErr c.put_trace.result (IsTraceBrokenOff b c.args.run x y)) (sym c.if-seen.true)
    (on_err_weaker c.put_trace.result (trace_broken_off c.args.run true x y _ _) c.put_trace.ensures.broken)

pub returns-clause-run : goal.returns-clause-run
returns-clause-run g c = IfOk-weaker c.put_trace-2.result _ _ (has_ended c.args.run) c.put_trace-2.ensures.finished

pub returns-clause-said : goal.returns-clause-said
returns-clause-said g c =
    let x = g.K.Sink.shown c.args.out.now in
    let y = g.K.Sink.shown c.put_trace-2.new.out in
    subst (λ (b : Bool). IfOk c.put_trace-2.result (λ made. IsSaid x y (trace_to b c.args.run made.joint.steps))) (sym c.if-seen.false)
    c.put_trace-2.ensures.said

pub returns-clause-broken : goal.returns-clause-broken
returns-clause-broken g c =
    let x = g.K.Sink.shown c.args.out.now in
    let y = g.K.Sink.shown c.put_trace-2.new.out in
    subst (λ (b : Bool). OnErr c.put_trace-2.result (IsTraceBrokenOff b c.args.run x y)) (sym c.if-seen.false)
    (on_err_weaker c.put_trace-2.result (trace_broken_off c.args.run false x y _ _) c.put_trace-2.ensures.broken)
