use Rattle.std.proofs.Common.{inl, inr, nat_eq, not, refl}
use Rattle.io_edge.proofs.Pieces.{none_said, said_then_said}
use Rattle.io_edge.proofs.Taken.{on_err}
use Rattle.std.proofs.lemmas.Result.{IfOk-weaker, on_err_weaker}
use Rattle.run_wires.proofs.OfLines.{header_is_lines}
use Rattle.run_wires.proofs.TraceIsSaid.{heard_none, reported_all}
use Rattle.run_wires.specs.Text.{header}
use Rattle.run_wires.specs.Trace.{changes_to}
use Rattle.run_wires.proofs.tracing.put_trace.Goals as goal

pub returns-in_err-put_header-clause-looked_so_far : goal.returns-in_err-put_header-clause-looked_so_far
returns-in_err-put_header-clause-looked_so_far g c = record { steps = 0; goes_on = tt; looked = refl }

pub returns-in_err-put_header-clause-broken : goal.returns-in_err-put_header-clause-broken
returns-in_err-put_header-clause-broken g c =
    on_err c.from_residual.result _ (inl (record { broken = c.in_err-put_header.ensures.broken; looked = refl }))

pub make-requires-clause-reported : goal.make-requires-clause-reported
make-requires-clause-reported g c = (
  heard_none c.args.run c.new-changes.result.decoder c.new-changes.ensures.silent,
  none_said (g.K.Sink.shown c.put_header.new.out),
)

pub returns-clause-said : goal.returns-clause-said
returns-clause-said g c =
    let seen = not (nat_eq g.row.SEEN 0) in
    let x = g.K.Sink.shown c.args.out.now in
    let y = g.K.Sink.shown c.put_header.new.out in
    let z = g.K.Sink.shown c.make.new.out in
    IfOk-weaker c.make.result _ _
    (λ made reported.
    said_then_said x y z (header seen) (changes_to seen c.args.run made.joint.steps) (header_is_lines seen)
    c.in_ok-put_header.ensures.said
    (reported_all seen c.args.ending c.args.run c.make.new.reporter.decoder y z made.joint.steps reported))
    c.make.ensures.reported

pub returns-clause-broken : goal.returns-clause-broken
returns-clause-broken g c =
    on_err_weaker c.make.result
    (λ broke. inr (record { afterwards = g.K.Sink.shown c.put_header.new.out; said = c.in_ok-put_header.ensures.said; broke = broke }))
    c.make.ensures.broken
