-- If a put fails as a run is made, the text of the whole run is broken off.
use Rattle.std.proofs.Common.{◌≡◌, ◌<◌, ℕ, suc, ◌+◌, List, ◌++◌, refl, ap, sym, subst, ◌∙◌, arith}
use Rattle.std.specs.Prelude.{Bool}
use Rattle.std.proofs.lemmas.List.Concat.{flat_map-append}
use Rattle.run_program.specs.Putting.{HaveLookedToBreak, IsLogBrokenOff}
use Rattle.run_program.specs.BoardOutcomes.{IsOutcome, Outcome}
use Rattle.run_program.specs.Texts.{line_text, log_text}
use Rattle.run_program.specs.Tracing.{IsTraceBrokenOff}
use Rattle.run_probes.specs.Probes.{Watch}
use Rattle.host_turn.specs.declared.stamped.Stamped.{Stamped}
use Rattle.io_edge.specs.Said.{IsBrokenOff, Shown}
use Rattle.joint_feed.specs.Stories.{Story}
use Rattle.joint_run.specs.Joint.{joint_start_of}
use Rattle.run_loop.specs.declared.ending.Ending.TheVariants.{Stamp}
use Rattle.run_loop.specs.Running.{log_at, logged, step_says}
use Rattle.run_loop.proofs.Steps.{log_grows, reached_by}
use Rattle.run_loop.proofs.Texts.{broken_in_run}
use Rattle.run_program.proofs.ComesToEnd.{EndsAfter, ends_within}
use Rattle.run_program.proofs.Ends.{outcome_ends}
use Rattle.run_program.proofs.Lines.{are_lines}
use Rattle.run_wires.proofs.TraceIsSaid.{trace_broken}
use Rattle.run_wires.specs.Ending.{HaveTracedToBreak}

module _ (s : Story) where
  -- each step takes a cycle at least, so the run comes to an end
  pub the_run : EndsAfter s 0
  the_run = ends_within s (4096 + s.stop) 0 (joint_start_of s.held) tt refl (omega arith)

  -- a step adds what it says
  log_to_end : (run : Outcome) → IsOutcome s run → (k : ℕ) → k < run.steps
      → log_text (log_at s (suc k)) ≡ log_text (log_at s k) ++ log_text (step_says s k)
  log_to_end run h k l =
      let next = reached_by s run.steps k h.world h.reached l in
      ap log_text (log_grows s k next.0 next.1) ∙ flat_map-append line_text (log_at s k) (step_says s k)

  -- if a put fails in what a step says, the log of the whole run is broken off
  pub log_broken_off : (before after : Shown) (first probes : List Watch) → HaveLookedToBreak s before after first probes
      → IsLogBrokenOff s before after
  log_broken_off before after first probes h =
      let run = the_run.0 in
      let is = the_run.2 in
      let part =
      broken_in_run Stamp s (λ n. log_text (log_at s n)) (λ n. log_text (step_says s n)) run.steps run.end (outcome_ends s run is)
      (log_to_end run is) (λ n. are_lines (log_at s n)) before after first probes h in
      record {
        run = run;
        is = is;
        part = subst (λ (l : List Stamped). IsBrokenOff before after (log_text l)) (ap logged is.reached ∙ sym is.log) part;
      }

  -- and so is its trace, if one fails in what a step adds or in the header
  pub trace_broken_off : (seen : Bool) (before after : Shown) (first probes : List Watch)
      → HaveTracedToBreak seen Stamp s before after first probes → IsTraceBrokenOff seen s before after
  trace_broken_off seen before after first probes h =
      let run = the_run.0 in
      let is = the_run.2 in
      record {
        run = run;
        is = is;
        part = trace_broken seen Stamp s run.steps run.end (outcome_ends s run is) before after first probes h;
      }
