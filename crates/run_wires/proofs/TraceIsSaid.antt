-- What a sink has after the header and what was reported of a run.
use Rattle.std.proofs.Common.{◌≡◌, ◌≤◌, ℕ, suc, Bool, true, List, ◌++◌, Some, Ok, Err, inl, inr, refl, ap, sym, subst, ◌∙◌}
use Rattle.run_probes.specs.Transfers.{Ear, silence, wires_at}
use Rattle.io_edge.specs.Said.{IsBrokenOff, IsSaid, Shown}
use Rattle.io_edge.proofs.Pieces.{broken_before, said_then_broken}
use Rattle.joint_feed.specs.Stories.{Story, state_at}
use Rattle.run_loop.proofs.Texts.{broken_in_run, later}
use Rattle.run_loop.specs.declared.ending.End.{End}
use Rattle.run_loop.specs.declared.ending.End.TheVariants.{Reached}
use Rattle.run_loop.specs.declared.ending.Ending.TheVariants.{TickStart}
use Rattle.run_loop.specs.declared.finished.Finished.{Finished}
use Rattle.run_loop.specs.Finished.{IsFinished}
use Rattle.run_loop.proofs.Ended.{comes_to_end, over_after}
use Rattle.fw_ticks.specs.JointRun.{KeepsTimeFrom}
use Rattle.joint_run.specs.Joint.{joint_start_of}
use Rattle.std.specs.Prelude.{IfOk, OnOk}
use Rattle.std.specs.declared.result.Result.{Result}
use Rattle.run_loop.specs.declared.ending.Ending.{Ending}
use Rattle.run_loop.specs.Reports.{IsReportedTo}
use Rattle.run_loop.specs.Running.{IsEndAfter}
use Rattle.run_probes.specs.Probes.{Watch}
use Rattle.run_wires.proofs.OfLines.{changes_are_lines, header_is_lines}
use Rattle.run_wires.proofs.StillAddsNothing.{still_to}
use Rattle.run_wires.specs.Ending.{HaveTracedToBreak, IsTraceBrokenOff, IsTraceSaid}
use Rattle.run_wires.specs.HeardSoFar.{HasHeard}
use Rattle.run_wires.specs.Text.{header}
use Rattle.run_wires.specs.Trace.{changes_to, text_in, trace_to}
use Rattle.law_wires_heard.specs.Hearing.{heard_to}

-- before the first step nothing was heard, and the wires are high
pub heard_none : (s : Story) (ear : Ear) → ear ≡ silence → HasHeard s 0 ear
heard_none s ear none = record { all = none; levels = sym (ap (λ (a : Ear). Some (wires_at a.last)) none) }

-- all that is reported of a run's first steps is what their samples add
pub reported_all : (seen : Bool) (e : Ending) (s : Story) (ear : Ear) (first last : Shown) (n : ℕ)
    → IsReportedTo e true s (λ k. HasHeard s k ear × IsSaid first last (changes_to seen s k)) n → IsSaid first last (changes_to seen s n)
reported_all seen e s ear first last n h =
    let k = h.steps in
    let level = h.reported_so.0.levels ∙ ap (λ (a : Ear). Some (wires_at a.last)) h.reported_so.0.all in
    subst (λ v. IsSaid first last v) (sym (still_to seen s k level n h.quiet.later (h.quiet.levels refl)).1) h.reported_so.1

-- what later samples add is after what the earlier ones did
pub later_changes : (seen : Bool) (s : Story) (k n : ℕ) → k ≤ n → (rest : List ℕ) × (changes_to seen s n ≡ changes_to seen s k ++ rest)
later_changes seen s k n l = later (changes_to seen s) (λ j. text_in seen (state_at s (suc j)) (heard_to s j)) n (λ j m. refl) k l

-- a trace whose saying broke off at some step, or in the header, is that of the whole run, broken off
pub trace_broken : (seen : Bool) (e : Ending) (s : Story) (n : ℕ) (end : End) → IsEndAfter e s n end
    → (before after : Shown) (first probes : List Watch) → HaveTracedToBreak seen e s before after first probes
    → IsBrokenOff before after (trace_to seen s n)
trace_broken seen e s n end ends before after first probes (inl h) =
    broken_before before after (header seen) (changes_to seen s n) (header_is_lines seen) h.broken
trace_broken seen e s n end ends before after first probes (inr h) =
    said_then_broken before h.afterwards after (header seen) (changes_to seen s n) (header_is_lines seen) h.said
    (broken_in_run e s (changes_to seen s) (λ k. text_in seen (state_at s (suc k)) (heard_to s k)) n end ends (λ k l. refl)
    (changes_are_lines seen s) h.afterwards after first probes h.broke)

module _ (seen : Bool) (s : Story) (t : KeepsTimeFrom (joint_start_of s.held) s.bytes s.edges s.events) (before after : Shown) where
  -- the trace of a run that keeps its time is said up to where the run is over
  pub timely_said : {E : Type 0} (result : Result Finished E) → IfOk result (IsFinished TickStart s)
      → IfOk result (λ made. IsSaid before after (trace_to seen s made.joint.steps)) → OnOk result (IsTraceSaid seen s before after)
  timely_said (Ok made) h said = record { steps = made.joint.steps; is_over = over_after s t made.joint.steps made.end h.after; said = said }
  timely_said (Err fault) h said = tt

  -- or its saying is broken off
  pub timely_broken : (first probes : List Watch) → HaveTracedToBreak seen TickStart s before after first probes
      → IsTraceBrokenOff seen s before after
  timely_broken first probes h =
      let end = comes_to_end s t in
      record { steps = end.0; is_over = end.1; broken = trace_broken seen TickStart s end.0 Reached end.1 before after first probes h }
