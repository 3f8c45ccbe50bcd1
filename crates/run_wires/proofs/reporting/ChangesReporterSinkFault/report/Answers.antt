use Rattle.std.proofs.Common.{nat_eq, not}
use Rattle.std.proofs.lemmas.Result.{on_err_weaker, on_ok_weaker}
use Rattle.run_loop.proofs.Texts.{broken_further, said_further}
use Rattle.run_wires.proofs.SampleIsOfState.{heard_now, rises_now, text_further}
use Rattle.run_wires.proofs.reporting.ChangesReporterSinkFault.report.Goals as goal

pub put_sample-requires : goal.put_sample-requires
put_sample-requires g c =
    let t = c.requires.reported in
    record {
      rises = rises_now (not (nat_eq g.row.SEEN 0)) t.0 t.1 t.3 c.args.course.now t.4 c.args.self.now.decoder t.5.0 c.cycle-cycle.result c.cycle-cycle.ensures.cycle;
    }

pub returns-clause-reported : goal.returns-clause-reported
returns-clause-reported g c = λ e s first k b h.
    let old = c.args.self.now.decoder in
    let it = c.args.course.now in
    let cycle = c.cycle-cycle.result in
    let lines = c.lines-lines.result in
    on_ok_weaker c.put_sample.result (λ said. (
      heard_now (not (nat_eq g.row.SEEN 0)) e s k it b old h.0 cycle lines c.cycle-cycle.ensures.cycle c.lines-lines.ensures.wires
          c.put_sample.new.decoder c.put_sample.ensures.heard,
      said_further _ _ _ _ _ _
          (text_further (not (nat_eq g.row.SEEN 0)) e s k it b old h.0 cycle lines c.cycle-cycle.ensures.cycle c.lines-lines.ensures.wires c.level_if-seen.result c.level_if-seen.ensures.level)
          (g.K.Sink.shown first)
          (g.K.Sink.shown c.args.out.now)
          (g.K.Sink.shown c.put_sample.new.out)
          h.1 said,
    )) c.put_sample.ensures.said

pub returns-clause-broken : goal.returns-clause-broken
returns-clause-broken g c = λ e s first k b h.
    on_err_weaker c.put_sample.result
    (broken_further _ _ _ _ _ _
    (text_further (not (nat_eq g.row.SEEN 0)) e s k c.args.course.now b c.args.self.now.decoder h.0 c.cycle-cycle.result c.lines-lines.result
    c.cycle-cycle.ensures.cycle c.lines-lines.ensures.wires c.level_if-seen.result c.level_if-seen.ensures.level)
    (g.K.Sink.shown first)
    (g.K.Sink.shown c.args.out.now)
    (g.K.Sink.shown c.put_sample.new.out) h.1)
    c.put_sample.ensures.broken
