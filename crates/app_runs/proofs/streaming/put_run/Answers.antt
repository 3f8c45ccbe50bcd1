use Rattle.std.proofs.Common.{subst, inl, inr}
use Rattle.std.specs.Prelude.{[], if◌then◌else◌}
use Rattle.std.proofs.lemmas.Result.{on_err_weaker, on_ok_weaker}
use Rattle.io_edge.specs.Said.{IsBrokenOff, IsSaid}
use Rattle.subsystem.specs.Ending.{ending}
use Rattle.io_edge.proofs.Taken.{on_err}
use Rattle.app_runs.specs.RunTexts.{start_lines}
use Rattle.app_runs.proofs.StartsAreLines.{cut_in_end, cut_in_log, cut_in_starts, end_after_log}
use Rattle.app_runs.proofs.StartsAreLines.{starts_after_log, whole_run}
use Rattle.app_answers.proofs.EndStates.{same_state}
use Rattle.app_runs.proofs.streaming.put_run.Goals as goal

pub returns-in_err-ended-clause-broken : goal.returns-in_err-ended-clause-broken
returns-in_err-ended-clause-broken g c =
    let x = g.K.Sink.shown c.args.out.now in
    let z = g.K.Sink.shown c.run_to.new.out in
    let h = c.in_err-ended.ensures.broken in
    on_err c.from_residual.result _
    (h.run, h.is, cut_in_log c.args.ticks c.args.steps h.run x z h.part, inl c.in_err-ended.ensures.looked_to_break)

pub returns-in_err-put_ticks-clause-broken : goal.returns-in_err-put_ticks-clause-broken
returns-in_err-put_ticks-clause-broken g c =
    let x = g.K.Sink.shown c.args.out.now in
    let a = g.K.Sink.shown c.run_to.new.out in
    let z = g.K.Sink.shown c.put_ticks.new.out in
    let run = ending c.args.engine c.in_ok-ended.ended in
    let broken = subst (λ s. IsBrokenOff a z (if c.args.ticks then start_lines 0 s else [])) c.starts.ensures.starts
    c.in_err-put_ticks.ensures.broken in
    on_err c.from_residual-in_err-put_ticks.result _ (
      run,
      c.in_ok-ended.ensures.run,
      cut_in_starts c.args.ticks c.args.steps run x a z c.in_ok-ended.ensures.said broken,
      inr (starts_after_log c.args.ticks c.args.steps run x a z c.in_ok-ended.ensures.said broken, c.in_ok-ended.ensures.looked),
    )

pub returns-clause-said : goal.returns-clause-said
returns-clause-said g c =
    let x = g.K.Sink.shown c.args.out.now in
    let a = g.K.Sink.shown c.run_to.new.out in
    let b = g.K.Sink.shown c.put_ticks.new.out in
    let z = g.K.Sink.shown c.put_end.new.out in
    let run = ending c.args.engine c.in_ok-ended.ended in
    let ticks = subst (λ s. IsSaid a b (if c.args.ticks then start_lines 0 s else []))
    c.starts.ensures.starts c.in_ok-put_ticks.ensures.said in
    let same = same_state c.args.steps c.end.result.now run.end c.steps.result run.steps c.cycles.result run.cycles
    c.end.ensures.end c.steps.ensures.steps c.cycles.ensures.cycles in
    on_ok_weaker c.put_end.result
    (λ k. (
      run,
      c.in_ok-ended.ensures.run,
      whole_run c.args.ticks c.args.steps run x a b z c.in_ok-ended.ensures.said ticks (subst (IsSaid b z) same k),
      c.in_ok-ended.ensures.looked,
    ))
    c.put_end.ensures.said

pub returns-clause-broken : goal.returns-clause-broken
returns-clause-broken g c =
    let x = g.K.Sink.shown c.args.out.now in
    let a = g.K.Sink.shown c.run_to.new.out in
    let b = g.K.Sink.shown c.put_ticks.new.out in
    let z = g.K.Sink.shown c.put_end.new.out in
    let run = ending c.args.engine c.in_ok-ended.ended in
    let ticks = subst (λ s. IsSaid a b (if c.args.ticks then start_lines 0 s else []))
    c.starts.ensures.starts c.in_ok-put_ticks.ensures.said in
    let same = same_state c.args.steps c.end.result.now run.end c.steps.result run.steps c.cycles.result run.cycles
    c.end.ensures.end c.steps.ensures.steps c.cycles.ensures.cycles in
    on_err_weaker c.put_end.result
    (λ k. let broken = subst (IsBrokenOff b z) same k in (
      run,
      c.in_ok-ended.ensures.run,
      cut_in_end c.args.ticks c.args.steps run x a b z c.in_ok-ended.ensures.said ticks broken,
      inr (end_after_log c.args.ticks c.args.steps run x a b z c.in_ok-ended.ensures.said ticks broken, c.in_ok-ended.ensures.looked),
    ))
    c.put_end.ensures.broken
