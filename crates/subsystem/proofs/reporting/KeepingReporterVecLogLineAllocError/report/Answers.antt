use Rattle.std.proofs.Common.{◌++◌, ap, sym, ◌∙◌}
use Rattle.std.proofs.lemmas.Result.{on_ok_weaker}
use Rattle.subsystem.proofs.Reported.{one_more}
use Rattle.subsystem.proofs.Reporters.{kept_on, lines_by, noted_on}
use Rattle.subsystem.proofs.reporting.KeepingReporterVecLogLineAllocError.report.Goals as goal

pub tick-requires : goal.tick-requires
tick-requires c =
    let t = c.requires.reported in
    record { few = (one_more t.0 t.1 t.3 c.args.course.now c.args.self.now.starts t.4 t.5.0).few }

pub returns-clause-reported : goal.returns-clause-reported
returns-clause-reported c = λ e s first k b reported.
    let it = c.args.self.now.starts in
    let course = c.args.course.now in
    let on = b.run_so_far.on in
    let m = one_more e s k course it b reported.0 in
    let lines =
    c.in_ok-push_lines.ensures.lines
    ∙ ap (λ v. c.args.out.now.items ++ v)
    (lines_by course it.stamps.items c.tick.result c.as_slice.result.now c.tick.ensures c.as_slice.ensures.value) in
    on_ok_weaker c.note.result
    (λ more. (
      noted_on e s k course b.last on.world it reported.0 m c.note.new.self more,
      kept_on e s k course b.last on.world it reported.0 m first.items c.args.out.now.items c.push_lines.new.log.items reported.1 lines,
    ))
    (c.note.ensures.noted s on.world (sym on.in_run.mcu) (sym on.in_run.cycle))
