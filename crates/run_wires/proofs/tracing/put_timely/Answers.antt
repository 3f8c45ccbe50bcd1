use Rattle.std.proofs.Common.{Bool, false, sym, subst, true}
use Rattle.std.specs.Prelude.{OnErr, OnOk}
use Rattle.std.proofs.lemmas.Result.{on_err_weaker}
use Rattle.run_wires.specs.Ending.{IsTraceBrokenOff, IsTraceSaid}
use Rattle.run_wires.proofs.TraceIsSaid.{timely_broken, timely_said}
use Rattle.run_wires.proofs.tracing.put_timely.Goals as goal

pub returns-then-seen : goal.returns-then-seen
returns-then-seen g c =
    let s = c.args.run in
    let x = g.K.Sink.shown c.args.out.now in
    let z = g.K.Sink.shown c.put_trace.new.out in
    let e = c.put_trace.ensures in
    record {
      said = subst (λ (b : Bool). OnOk c.put_trace.result (IsTraceSaid b s x z)) (sym c.if-seen.true)
          (timely_said true s c.requires.timely x z c.put_trace.result e.finished e.said);
      broken = subst (λ (b : Bool). OnErr c.put_trace.result (IsTraceBrokenOff b s x z)) (sym c.if-seen.true)
          (on_err_weaker c.put_trace.result (timely_broken true s c.requires.timely x z _ _) e.broken);
    }

pub returns : goal.returns
returns g c =
    let s = c.args.run in
    let x = g.K.Sink.shown c.args.out.now in
    let z = g.K.Sink.shown c.put_trace-2.new.out in
    let e = c.put_trace-2.ensures in
    record {
      said = subst (λ (b : Bool). OnOk c.put_trace-2.result (IsTraceSaid b s x z)) (sym c.if-seen.false)
          (timely_said false s c.requires.timely x z c.put_trace-2.result e.finished e.said);
      broken = subst (λ (b : Bool). OnErr c.put_trace-2.result (IsTraceBrokenOff b s x z)) (sym c.if-seen.false)
          (on_err_weaker c.put_trace-2.result (timely_broken false s c.requires.timely x z _ _) e.broken);
    }
