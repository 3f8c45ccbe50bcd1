use Rattle.std.proofs.Common.{false}
use Rattle.std.proofs.lemmas.Result.{on_err_weaker, on_ok_weaker}
use Rattle.run_loop.proofs.Reported.{items_near}
use Rattle.run_loop.proofs.Texts.{broken_further, said_further}
use Rattle.run_program.proofs.ReportedByStamp.{text_further}
use Rattle.run_program.proofs.reporting.ByStampReporterSinkFault.report.Goals as goal

pub put_items-requires : goal.put_items-requires
put_items-requires g c =
    let t = c.requires.reported in
    record { near = items_near t.0 false t.1 t.3 c.args.course.now t.4 c.as_slice.result.now c.as_slice.ensures.value }

pub returns-clause-reported : goal.returns-clause-reported
returns-clause-reported g c = λ e s first k b reported.
    on_ok_weaker c.put_items.result
    (said_further _ _ _ _ _ _ (text_further e s k c.args.course.now b c.as_slice.result.now c.as_slice.ensures.value)
    (g.K.Sink.shown first)
    (g.K.Sink.shown c.args.out.now)
    (g.K.Sink.shown c.put_items.new.out) reported)
    c.put_items.ensures.said

pub returns-clause-broken : goal.returns-clause-broken
returns-clause-broken g c = λ e s first k b reported.
    on_err_weaker c.put_items.result
    (broken_further _ _ _ _ _ _ (text_further e s k c.args.course.now b c.as_slice.result.now c.as_slice.ensures.value)
    (g.K.Sink.shown first)
    (g.K.Sink.shown c.args.out.now)
    (g.K.Sink.shown c.put_items.new.out) reported)
    c.put_items.ensures.broken
