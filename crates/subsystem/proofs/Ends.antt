-- The run at its end.
use Rattle.std.proofs.Common.{◌≡◌, ◌≤◌, ◌<◌, ℕ, suc, ◌+◌, ◌-◌, Bool, true, false, ◌&&◌, List, [], ◌∷◌}
use Rattle.std.proofs.Common.{◌++◌, length, map, Some, refl, ap, sym, subst, ◌∙◌, arith}
use Rattle.std.specs.Prelude.{if◌then◌else◌, nat_le}
use Rattle.std.proofs.lemmas.Bool.Decides.{nat_tests}
use Rattle.std.proofs.lemmas.List.{get_or_append_left}
use Rattle.std.proofs.Math.Seq.{get_or-append_seam}
use Rattle.std.specs.declared.option.Option.{Option}
use Rattle.board_terms.specs.Cadence.{listed}
use Rattle.fw_ticks.specs.JointRun.{KeepsTimeFrom}
use Rattle.joint_feed.specs.Stories.{Story, state_at, starts_tick}
use Rattle.joint_run.specs.Joint.{Beside, log_of, joint_start_of}
use Rattle.joint_run.specs.Run.{World}
use Rattle.run_loop.specs.declared.ending.Ending.TheVariants.{TickStart}
use Rattle.run_loop.specs.Running.{IsOverAfter, log_at, logged}
use Rattle.run_loop.specs.Starts.{start_stamp, starts_among}
use Rattle.subsystem.specs.LayoutOutcomes.{IsOutcome, Outcome, lines_of}
use Rattle.subsystem.specs.Progress.{line_so_far, lines_so_far}
use Rattle.subsystem.proofs.Lines.{lines_whole}
use Rattle.subsystem.proofs.Ticks.{one_longer}
use Rattle.subsystem.proofs.Begun.{before_end}
use Rattle.subsystem.proofs.Reported.{still_reported}

-- the run is over at a tick start at or after the end stamp
pub at_start : (b : Bool) (stop cycle : ℕ) → (b && nat_le (4096 + stop) cycle) ≡ true → (b ≡ true) × (4096 + stop ≤ cycle)
at_start false stop cycle h = absurd cc
at_start true stop cycle h = (refl, grind (arith, nat_tests, h))

-- the outcome of a run that is over at this state
abbrev pub outcome_at : Story → ℕ → World Beside → Outcome
outcome_at s k w = record {
  log = lines_of (starts_among s (suc k)) (log_at s k);
  starts = starts_among s (suc k);
  end = w.cpu;
  steps = k;
  cycles = w.cycle;
}

module _ (s : Story) (t : KeepsTimeFrom (joint_start_of s.held) s.bytes s.edges s.events) (k : ℕ) (h : IsOverAfter TickStart s k) where
  abbrev w : World Beside
  w = h.world

  over : (starts_tick s w ≡ true) × (4096 + s.stop ≤ w.cycle)
  over = at_start (starts_tick s w) s.stop w.cycle h.ends

  among : starts_among s (suc k) ≡ starts_among s k ++ (w.cycle - 4096) ∷ []
  among =
      ap (λ (o : Option (World Beside)). starts_among s k ++ start_stamp s o) h.reached
      ∙ ap (λ b. starts_among s k ++ (if b then (w.cycle - 4096) ∷ [] else [])) over.0

  long : length (starts_among s (suc k)) ≡ suc (length (starts_among s k))
  long = ap length among ∙ one_longer (starts_among s k) (w.cycle - 4096)

  -- its lines are those of its starts
  pub reported_whole : (starts : List ℕ) → starts ≡ starts_among s (suc k) → lines_so_far s k ≡ lines_of starts (log_at s k)
  reported_whole starts same =
      let all = starts_among s (suc k) in
      let length_now : 0 < length all = let l = long in omega (arith, l) in
      ap (λ (o : Option (World Beside)). map (line_so_far (starts_among s k)) (logged o)) h.reached
      ∙ sym (still_reported s k w h.reached)
      ∙ lines_whole all (log_of w.board) length_now
      ∙ ap (λ (o : Option (World Beside)). lines_of all (logged o)) (sym h.reached)
      ∙ ap (λ (v : List ℕ). lines_of v (log_at s k)) (sym same)

  -- a run with this log, these tick starts and this end is an outcome
  pub ends : (run : Outcome) → run.log ≡ lines_of run.starts (log_at s k) → run.starts ≡ starts_among s (suc k)
      → run.end ≡ w.cpu → run.steps ≡ k → run.cycles ≡ w.cycle → IsOutcome s run
  ends run log items end_is steps cycles =
      let xs = starts_among s k in
      let all : run.starts ≡ xs ++ (w.cycle - 4096) ∷ [] = items ∙ among in
      let long_now : length run.starts ≡ suc (length xs) = ap length items ∙ long in
      let last_index : length run.starts - 1 ≡ length xs = omega (arith, long_now) in
      let reached = over.1 in
      record {
        world = w;
        reached = subst (λ (n : ℕ). state_at s n ≡ Some w) (sym steps) h.reached;
        at = over.0;
        starts = items ∙ ap (λ (n : ℕ). starts_among s (suc n)) (sym steps);
        last = record {
          reaches =
              let at : listed run.starts (length run.starts - 1) ≡ w.cycle - 4096 =
              ap (listed run.starts) last_index ∙ ap (λ (v : List ℕ). listed v (length xs)) all
              ∙ get_or-append_seam xs (w.cycle - 4096) [] 0 in
              omega (arith, at, reached);
          before = λ j below.
              let l : j < length xs = omega (arith, below, last_index) in
              let same : listed run.starts j ≡ listed xs j =
              ap (λ (v : List ℕ). listed v j) all ∙ get_or_append_left xs ((w.cycle - 4096) ∷ []) 0 j l in
              let earlier = before_end s t k h.goes_on j l in
              omega (arith, same, earlier);
        };
        processor = end_is;
        cycles = cycles;
        log = log ∙ ap (λ (o : Option (World Beside)). lines_of run.starts (logged o)) h.reached;
      }

  -- a run that is over after so many steps has an outcome
  pub comes_to : IsOutcome s (outcome_at s k w)
  comes_to = ends (outcome_at s k w) refl refl refl refl refl
