-- What a run has come to that was reported.
use Rattle.std.proofs.Common.{◌≡◌, ℕ, suc, false, List, [], ◌++◌, refl, ap, sym, subst, ◌∙◌}
use Rattle.std.proofs.lemmas.List.Concat.{flat_map-append}
use Rattle.fw_ticks.specs.JointRun.{KeepsTimeFrom}
use Rattle.run_probes.specs.Looks.{looks}
use Rattle.run_probes.specs.Probes.{Watch}
use Rattle.io_edge.specs.Said.{IsBrokenOff, IsSaid, Shown}
use Rattle.joint_feed.specs.Stories.{Story}
use Rattle.joint_run.specs.Joint.{joint_start_of}
use Rattle.model_link.specs.declared.line.LogLine.{LogLine}
use Rattle.run_loop.specs.declared.ending.End.TheVariants.{Reached}
use Rattle.run_loop.specs.declared.finished.Finished.{Finished}
use Rattle.run_loop.specs.declared.ending.Ending.TheVariants.{TickStart}
use Rattle.run_loop.specs.Finished.{IsFinished}
use Rattle.run_loop.proofs.Ended.{comes_to_end, over_at}
use Rattle.run_loop.proofs.Texts.{broken_in_run}
use Rattle.run_loop.specs.Running.{IsOverAfter, log_at}
use Rattle.run_loop.specs.Starts.{starts_among}
use Rattle.run_loop.specs.Reports.{IsReportedTo}
use Rattle.subsystem.specs.declared.ended.Ended.{Ended}
use Rattle.subsystem.specs.declared.starts.Starts.{Starts}
use Rattle.subsystem.specs.declared.reporting.Putting.{Putting}
use Rattle.subsystem.specs.Counts.{none_counted, with_lines}
use Rattle.subsystem.specs.Ending.{ending}
use Rattle.subsystem.specs.Progress.{lines_so_far}
use Rattle.subsystem.specs.Putting.{HaveLookedToBreak, IsLogBrokenOff, step_lines}
use Rattle.subsystem.specs.LayoutOutcomes.{IsOutcome, Outcome, lines_of}
use Rattle.subsystem.specs.LogReports.{HasNoted, HasPut}
use Rattle.subsystem.specs.Texts.{line_text, log_text}
use Rattle.subsystem.proofs.Ends.{comes_to, ends, outcome_at, reported_whole}
use Rattle.subsystem.proofs.Lines.{are_lines}
use Rattle.subsystem.proofs.Reported.{reported_quiet, reported_step}

-- the run has reached an outcome, whose log a sink has taken and which is counted
pub record HasCome (s : Story) (ended : Ended) (x y : Shown) : Type 0 where
  pub run : IsOutcome s (ending s ended)
  pub said : IsSaid x y (log_text (ending s ended).log)
  pub counts : ended.counts ≡ with_lines none_counted (ending s ended).log

module _ (s : Story) (t : KeepsTimeFrom (joint_start_of s.held) s.bytes s.edges s.events) (made : Finished)
    (h : IsFinished TickStart s made) where
  abbrev over : IsOverAfter TickStart s made.joint.steps
  over = record {
    goes_on = h.after.goes_on;
    world = h.after.world;
    reached = h.after.reached;
    ends = over_at s t made.joint.steps h.after.world made.end h.after.ends;
  }

  -- into a sink
  module _ (it : Putting) (x y : Shown)
      (reported : IsReportedTo TickStart false s (λ k. HasPut TickStart s k it × IsSaid x y (log_text (lines_so_far s k))) made.joint.steps)
      (ended : Ended) (starts : ended.starts ≡ it.starts.stamps) (mcu : ended.end ≡ made.joint.mcu) (steps : ended.steps ≡ made.joint.steps)
      (cycles : ended.cycles ≡ made.joint.cycle) (counts : ended.counts ≡ it.counts) where
    stamps : ended.starts.items ≡ starts_among s (suc made.joint.steps)
    stamps = ap (λ v. v.items) starts ∙ reported.reported_so.0.noted.starts ∙ sym reported.quiet.starts

    lines : lines_so_far s reported.steps ≡ (ending s ended).log
    lines =
        reported_quiet s t reported.steps made.joint.steps reported.quiet
        ∙ reported_whole s t made.joint.steps over ended.starts.items stamps
        ∙ ap (λ (k : ℕ). lines_of ended.starts.items (log_at s k)) (sym steps)

    -- a run that ended, and put its lines as they arose, is the outcome of its story
    pub came : HasCome s ended x y
    came = record {
      run = ends s t made.joint.steps over (ending s ended)
          (ap (λ (k : ℕ). lines_of ended.starts.items (log_at s k)) steps) stamps
          (mcu ∙ h.processor) steps (cycles ∙ h.cycles);
      said = subst (λ (l : List LogLine). IsSaid x y (log_text l)) lines reported.reported_so.1;
      counts = counts ∙ reported.reported_so.0.counts ∙ ap (with_lines none_counted) lines;
    }

  -- into a list
  module _ (it : Starts) (first log : List LogLine) (none : first ≡ [])
      (reported : IsReportedTo TickStart false s (λ k. HasNoted TickStart s k it × (log ≡ first ++ lines_so_far s k)) made.joint.steps)
      (run : Outcome) (kept : run.log ≡ log) (starts : run.starts ≡ it.stamps.items)
      (mcu : run.end ≡ made.joint.mcu) (steps : run.steps ≡ made.joint.steps)
      (cycles : run.cycles ≡ made.joint.cycle) where
    noted : run.starts ≡ starts_among s (suc made.joint.steps)
    noted = starts ∙ reported.reported_so.0.starts ∙ sym reported.quiet.starts

    -- a run that ended, and kept its lines, is the outcome of its story
    pub came_kept : IsOutcome s run
    came_kept =
        ends s t made.joint.steps over run
        (kept ∙ reported.reported_so.1 ∙ ap (λ v. v ++ lines_so_far s reported.steps) none
        ∙ reported_quiet s t reported.steps made.joint.steps reported.quiet ∙ reported_whole s t made.joint.steps over run.starts noted)
        noted (mcu ∙ h.processor) steps (cycles ∙ h.cycles)

-- what probes have looked at in a run they have looked at in the same run by another name
pub by_name : (P : Story → List Watch → List Watch → Type 0) (s t : Story) → s ≡ t → (before after : List Watch) → P s before after
    → P t before after
by_name P s t same before after h = subst (λ (v : Story). P v before after) same h

-- at as many states
pub looked_by_name : (s t : Story) → s ≡ t → (before after : List Watch) (k n : ℕ) → n ≡ k → after ≡ looks s k before → after ≡ looks t n before
looked_by_name s t same before after k n number h =
    by_name (λ v first last. last ≡ looks v n first) s t same before after (h ∙ ap (λ (m : ℕ). looks s m before) (sym number))

-- a put that fails breaks off the text of the whole log
pub broken_whole : (s : Story) → KeepsTimeFrom (joint_start_of s.held) s.bytes s.edges s.events
    → (x y : Shown) (before after : List Watch) → HaveLookedToBreak s x y before after → IsLogBrokenOff s x y
broken_whole s t x y before after b =
    let end = comes_to_end s t in
    let k = end.0 in
    let over = end.1 in
    let part =
    broken_in_run TickStart s (λ n. log_text (lines_so_far s n)) (λ n. log_text (step_lines s n)) k Reached over
    (λ n l. ap log_text (reported_step s t n) ∙ flat_map-append line_text (lines_so_far s n) (step_lines s n))
    (λ n. are_lines (lines_so_far s n)) x y before after b in
    record {
      run = outcome_at s k over.world;
      is = comes_to s t k over;
      part = subst (λ (l : List LogLine). IsBrokenOff x y (log_text l)) (reported_whole s t k over (starts_among s (suc k)) refl) part;
    }
