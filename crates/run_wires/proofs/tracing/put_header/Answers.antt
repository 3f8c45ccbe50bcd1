use Rattle.std.proofs.Common.{Bool, sym, subst}
use Rattle.std.specs.Prelude.{OnErr, OnOk}
use Rattle.io_edge.specs.Said.{IsBrokenOff, IsSaid}
use Rattle.run_wires.specs.Text.{header}
use Rattle.run_wires.proofs.tracing.put_header.Goals as goal

pub returns-then-seen : goal.returns-then-seen
returns-then-seen g c =
    let x = g.K.Sink.shown c.args.out.now in
    let y = g.K.Sink.shown c.say.new.out in
    record {
      said = subst (λ (b : Bool). OnOk c.say.result (IsSaid x y (header b))) (sym c.if-seen.true) c.say.ensures.said;
      broken = subst (λ (b : Bool). OnErr c.say.result (IsBrokenOff x y (header b))) (sym c.if-seen.true) c.say.ensures.broken;
    }

pub returns : goal.returns
returns g c =
    let x = g.K.Sink.shown c.args.out.now in
    let y = g.K.Sink.shown c.say-2.new.out in
    record {
      said = subst (λ (b : Bool). OnOk c.say-2.result (IsSaid x y (header b))) (sym c.if-seen.false) c.say-2.ensures.said;
      broken = subst (λ (b : Bool). OnErr c.say-2.result (IsBrokenOff x y (header b))) (sym c.if-seen.false) c.say-2.ensures.broken;
    }
