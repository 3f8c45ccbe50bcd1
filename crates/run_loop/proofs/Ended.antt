-- A run makes no step after its end, and one that keeps its time comes to it.
use Rattle.std.proofs.Common.{◌≡◌, ◌≤◌, ◌<◌, ◌⊎◌, ℕ, zero, suc, ◌+◌, Bool, true, false, ◌&&◌, leb, Some, inl, inr, refl, ap, sym, ◌∙◌, arith}
use Rattle.std.specs.Prelude.{nat_le}
use Rattle.std.proofs.lemmas.Bool.Decides.{nat_tests}
use Rattle.fw_ticks.specs.JointRun.{KeepsTimeFrom}
use Rattle.joint_feed.proofs.Going.{same_state}
use Rattle.joint_feed.specs.Stories.{Story, state_at}
use Rattle.joint_run.specs.Joint.{Beside, joint_start_of}
use Rattle.joint_run.specs.Run.{World}
use Rattle.run_loop.specs.declared.ending.End.{End}
use Rattle.run_loop.specs.declared.ending.End.TheVariants.{Reached, Stuck}
use Rattle.run_loop.specs.declared.ending.Ending.{Ending}
use Rattle.run_loop.specs.declared.ending.Ending.TheVariants.{TickStart}
use Rattle.run_loop.specs.Running.{EndsAt, GoesOnTo, IsEndAfter, IsOverAfter, is_over}
use Rattle.run_loop.proofs.Steps.{on_at, reached_by}
use Rattle.run_loop.proofs.Timekeeping.{never_stuck}

module _ (e : Ending) (s : Story) where
  -- no step is made at a state at which the run ends
  none_made : (k : ℕ) (w v : World Beside) (end : End) → EndsAt e s k w end → is_over e s w ≡ false → state_at s (suc k) ≡ Some v → ⊥
  none_made k w v Reached h on next = absurd (cc (h, on))
  none_made k w v (Stuck place) h on next = let none = h.none in absurd (cc (none, next))

  -- so a run that ends after some steps makes no more of them
  pub none_after : (n : ℕ) (end : End) → IsEndAfter e s n end → (k : ℕ) (v : World Beside) → GoesOnTo e s k → state_at s k ≡ Some v → k ≤ n
  none_after n end h k v on there =
      elim (leb k n) as (λ b. leb k n ≡ b → k ≤ n) [
        | true ↦ λ f. grind (arith, nat_tests, f)
        | false ↦ λ f.
            let below : n < k = grind (arith, nat_tests, f) in
            let here = on_at s e k n on below in
            let same : here.0 ≡ h.world = same_state (sym here.1 ∙ h.reached) in
            let next = reached_by s k n v there below in
            absurd (none_made n h.world next.0 end h.ends (sym (ap (is_over e s) same) ∙ here.2) next.1)
      ] refl

module _ (s : Story) (t : KeepsTimeFrom (joint_start_of s.held) s.bytes s.edges s.events) where
  -- it goes on up to a state, or was over before
  abbrev Judged : ℕ → Type 0
  Judged n = GoesOnTo TickStart s n ⊎ ((k : ℕ) × IsOverAfter TickStart s k)

  judged_at : (n : ℕ) (w : World Beside) (b : Bool)
      → state_at s n ≡ Some w → is_over TickStart s w ≡ b → GoesOnTo TickStart s n → Judged (suc n)
  judged_at n w true there over on = inr (n, record { goes_on = on; world = w; reached = there; ends = over })
  judged_at n w false there off on = inl (on, w, there, off)

  judged_by : (n : ℕ) → Judged n → Judged (suc n)
  judged_by n (inl on) = let here = t.goes_on n in judged_at n here.0 (is_over TickStart s here.0) here.1 refl on
  judged_by n (inr end) = inr end

  judged : (n : ℕ) → Judged n
  judged zero = inl tt
  judged (suc n) = judged_by n (judged n)

  over_within : (n : ℕ) (w : World Beside)
      → state_at s n ≡ Some w → is_over TickStart s w ≡ true → Judged (suc n) → (k : ℕ) × IsOverAfter TickStart s k
  over_within n w there over (inl on) =
      let open_still : is_over TickStart s w ≡ false = ap (is_over TickStart s) (same_state (sym there ∙ on.2)) ∙ on.3 in
      absurd (cc (open_still, over))
  over_within n w there over (inr end) = end

  -- the run reaches its end
  pub comes_to_end : (k : ℕ) × IsOverAfter TickStart s k
  comes_to_end =
      let e = (t.ends s.stop).1 in
      let w = e.start.state in
      let reaches = e.reaches in
      let stamp = e.start.cycle in
      let late : nat_le (4096 + s.stop) w.cycle ≡ true = grind (arith, nat_tests, reaches, stamp) in
      let over : is_over TickStart s w ≡ true = ap (λ b. b && nat_le (4096 + s.stop) w.cycle) e.start.at ∙ late in
      over_within e.start.steps w e.start.reached over (judged (suc e.start.steps))

  -- it isn't stuck
  pub over_at : (k : ℕ) (w : World Beside) (end : End) → EndsAt TickStart s k w end → is_over TickStart s w ≡ true
  over_at k w Reached ends = ends
  over_at k w (Stuck place) ends = absurd (never_stuck s (suc k) t ends.none)

  -- so it is over where it ends
  pub over_after : (k : ℕ) (end : End) → IsEndAfter TickStart s k end → IsOverAfter TickStart s k
  over_after k end h = record { goes_on = h.goes_on; world = h.world; reached = h.reached; ends = over_at k h.world end h.ends }
