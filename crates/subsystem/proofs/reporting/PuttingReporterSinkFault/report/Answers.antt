use Rattle.std.proofs.Common.{◌≤◌, false, length, ap, sym, subst, ◌∙◌, arith}
use Rattle.io_edge.proofs.Taken.{on_err}
use Rattle.run_loop.proofs.Reported.{items_near}
use Rattle.run_loop.proofs.Texts.{broken_further, said_further}
use Rattle.subsystem.specs.Counts.{with_lines}
use Rattle.subsystem.proofs.Reported.{one_more}
use Rattle.subsystem.proofs.Reporters.{lines_by, put_on, text_further}
use Rattle.subsystem.proofs.reporting.PuttingReporterSinkFault.report.Goals as goal

pub tick-tick-requires : goal.tick-tick-requires
tick-tick-requires g c =
    let t = c.requires.reported in
    record { few = (one_more t.0 t.1 t.3 c.args.course.now c.args.self.now.starts t.4 t.5.0.noted).few }

pub put_items-requires : goal.put_items-requires
put_items-requires g c =
    let t = c.requires.reported in
    record { near = items_near t.0 false t.1 t.3 c.args.course.now t.4 c.as_slice-items.result.now c.as_slice-items.ensures.value }

pub note_within-requires-clause-room : goal.note_within-requires-clause-room
note_within-requires-clause-room g c =
    let t = c.requires.reported in
    let few = (one_more t.0 t.1 t.3 c.args.course.now c.args.self.now.starts t.4 t.5.0.noted).room in
    let room = t.5.0.room in
    omega (arith, few, room)

pub returns-in_err-put_items-clause-broken : goal.returns-in_err-put_items-clause-broken
returns-in_err-put_items-clause-broken g c = λ e s first k b reported.
    let it = c.args.self.now.starts in
    let course = c.args.course.now in
    let noted = reported.0.noted in
    let m = one_more e s k course it b noted in
    let items = c.as_slice-items.ensures.value in
    on_err c.from_residual.result _
    (broken_further _ _ _ _ _ _
    (text_further e s k course b.last b.run_so_far.on.world it noted m c.tick-tick.result c.as_slice-items.result.now c.tick-tick.ensures items)
    (g.K.Sink.shown first)
    (g.K.Sink.shown c.args.out.now)
    (g.K.Sink.shown c.put_items.new.out) reported.1 c.in_err-put_items.ensures.broken)

pub returns-clause-reported : goal.returns-clause-reported
returns-clause-reported g c = λ e s first k b reported.
    let it = c.args.self.now in
    let course = c.args.course.now in
    let on = b.run_so_far.on in
    let m = one_more e s k course it.starts b reported.0.noted in
    let tick = c.tick-tick.result in
    let items = c.as_slice-items.ensures.value in
    let lines = lines_by course it.starts.stamps.items tick c.as_slice-items.result.now c.tick-tick.ensures items in
    let few = subst (λ v. length v ≤ 16) items c.as_slice-items.ensures.fits in (
      put_on e s k course b.last on.world it (record { starts = c.note_within.new.self; counts = c.with_items-self.result }) reported.0 m
          (c.note_within.ensures.noted s on.world (sym on.in_run.mcu) (sym on.in_run.cycle))
          c.note_within.ensures.capacity (c.with_items-self.ensures ∙ ap (with_lines it.counts) lines) few,
      said_further _ _ _ _ _ _
          (text_further e s k course b.last on.world it.starts reported.0.noted m tick c.as_slice-items.result.now c.tick-tick.ensures items)
          (g.K.Sink.shown first)
          (g.K.Sink.shown c.args.out.now)
          (g.K.Sink.shown c.put_items.new.out) reported.1 c.in_ok-put_items.ensures.said,
    )
