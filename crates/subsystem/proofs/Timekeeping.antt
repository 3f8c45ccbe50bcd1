-- The run keeps its time: what follows for the loop and for its outcome.
use Rattle.std.proofs.Common.{◌≡◌, ◌≤◌, ℕ, zero, suc, ◌+◌, ◌-◌, true, List, [], ◌∷◌, ◌++◌}
use Rattle.std.proofs.Common.{length, refl, ap, sym, subst, ◌∙◌, arith}
use Rattle.std.specs.Prelude.{if◌then◌else◌}
use Rattle.std.proofs.Math.Seq.{get_or-append_seam}
use Rattle.std.specs.declared.option.Option.{Option}
use Rattle.board_terms.specs.Cadence.{KeepsCadenceTo, listed}
use Rattle.fw_kernel.specs.declared.labels.TheConstants.{TICK}
use Rattle.fw_ticks.specs.JointRun.{KeepsTimeFrom}
use Rattle.joint_feed.specs.Stories.{Story, starts_tick}
use Rattle.joint_run.specs.Joint.{Beside, joint_board, joint_start_of}
use Rattle.joint_run.specs.Run.{World}
use Rattle.joint_run.specs.Starts.{start_in, starts_before, IsStart}
use Rattle.mcs48_core.specs.Status.{digit}
use Rattle.subsystem.specs.LayoutOutcomes.{IsOutcome, Outcome}
use Rattle.run_loop.specs.Starts.{start_stamp, starts_among}
use Rattle.subsystem.proofs.Ticks.{AreEach, each_with_if, longer_if, one_longer}

-- the run's starts are those at the states before its last one, and this one's
pub run_starts : (s : Story) (run : Outcome) (h : IsOutcome s run) → run.starts ≡ starts_among s run.steps ++ (h.world.cycle - 4096) ∷ []
run_starts s run h =
    h.starts ∙ ap (λ (o : Option (World Beside)). starts_among s run.steps ++ start_stamp s o) h.reached
    ∙ ap (λ b. starts_among s run.steps ++ (if b then (h.world.cycle - 4096) ∷ [] else [])) h.at

-- a run's list of tick starts has one more than those that its states before the end show
pub run_last : (s : Story) (run : Outcome) → IsOutcome s run → length run.starts ≡ suc (length (starts_among s run.steps))
run_last s run h = ap length (run_starts s run h) ∙ one_longer (starts_among s run.steps) (h.world.cycle - 4096)

module _ (s : Story) (t : KeepsTimeFrom (joint_start_of s.held) s.bytes s.edges s.events) where
  -- a stamp is the one of the tick start of this number
  abbrev pub Starts : ℕ → ℕ → Type 0
  Starts j stamp = IsStart (joint_board s.edges s.events) TICK s.bytes (joint_start_of s.held) j stamp

  -- the starts that are reported are the run's, by their numbers
  pub numbered : (k : ℕ)
      → (length (starts_among s k) ≡ starts_before (joint_board s.edges s.events) TICK s.bytes (joint_start_of s.held) k)
      × AreEach Starts (starts_among s k)
  numbered zero = (refl, λ j l. absurd (omega (arith, l)))
  numbered (suc k) =
      let d = joint_board s.edges s.events in
      let before = numbered k in
      let on = t.goes_on k in
      let w = on.0 in
      let b = starts_tick s w in
      let among : starts_among s (suc k) ≡ starts_among s k ++ (if b then (w.cycle - 4096) ∷ [] else []) =
      ap (λ (o : Option (World Beside)). starts_among s k ++ start_stamp s o) on.1 in
      let more : starts_before d TICK s.bytes (joint_start_of s.held) (suc k)
      ≡ starts_before d TICK s.bytes (joint_start_of s.held) k + digit b =
      ap (λ (o : Option (World Beside)). starts_before d TICK s.bytes (joint_start_of s.held) k + start_in d TICK o) on.1 in (
        ap length among ∙ longer_if b (starts_among s k) (w.cycle - 4096) ∙ ap (λ n. n + digit b) before.0 ∙ sym more,
        subst (AreEach Starts) (sym among) (each_with_if Starts b (starts_among s k) (w.cycle - 4096) before.1 (λ yes.
            let early = t.none_early k w on.1 yes in
            record { steps = k; state = w; reached = on.1; at = yes; number = sym before.0; cycle = omega (arith, early) })),
      )

  module _ (run : Outcome) (h : IsOutcome s run) where
    -- the run's last state is the tick start of the last number
    unfoldable pub ends_at : Starts (length run.starts - 1) (h.world.cycle - 4096)
    ends_at =
        let count = (numbered run.steps).0 in
        let long = run_last s run h in
        let last : length (starts_among s run.steps) ≡ length run.starts - 1 = omega (arith, long) in
        let early = t.none_early run.steps h.world h.reached h.at in
        record { steps = run.steps; state = h.world; reached = h.reached; at = h.at; number = sym count ∙ last; cycle = omega (arith, early) }

    -- its starts are those of the joint run
    pub starts_at : (j : ℕ) → j ≤ length run.starts - 1 → Starts j (listed run.starts j)
    starts_at j l =
        let long = run_last s run h in
        subst (AreEach Starts) (sym h.starts) (numbered (suc run.steps)).1 j (omega (arith, l, long))

    -- the last one is at the end stamp or later
    pub reaches_end : 4096 + s.stop ≤ h.world.cycle
    reaches_end =
        let xs = starts_among s run.steps in
        let long = run_last s run h in
        let last_index : length run.starts - 1 ≡ length xs = omega (arith, long) in
        let last : listed run.starts (length run.starts - 1) ≡ h.world.cycle - 4096 =
        ap (listed run.starts) last_index ∙ ap (λ (v : List ℕ). listed v (length xs)) (run_starts s run h)
        ∙ get_or-append_seam xs (h.world.cycle - 4096) [] 0 in
        let early = t.none_early run.steps h.world h.reached h.at in
        let reaches = h.last.reaches in
        omega (arith, last, early, reaches)

    -- the tick starts of a run keep the cadence
    pub keeps_cadence : KeepsCadenceTo (listed run.starts) (length run.starts - 1)
    keeps_cadence n l = t.near n (listed run.starts n) (starts_at n l)

    -- at the run's end an interrupt is in service, with register bank 1
    pub serves_at_end : (run.end.svc ≡ true) × (run.end.rb ≡ true)
    unfolding ends_at
    serves_at_end =
        let serving = t.serves (length run.starts - 1) (h.world.cycle - 4096) ends_at in
        (ap (λ m. m.svc) h.processor ∙ serving.0, ap (λ m. m.rb) h.processor ∙ serving.1)
