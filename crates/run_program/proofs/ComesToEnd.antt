-- A run on the board comes to its end.
use Rattle.std.proofs.Common.{◌≡◌, ◌≤◌, ℕ, zero, suc, ◌+◌, true, false, Some, None, refl, ap, sym, ◌∙◌, arith}
use Rattle.std.proofs.lemmas.Bool.Decides.{nat_tests}
use Rattle.run_program.specs.BoardOutcomes.{IsOutcome, Outcome}
use Rattle.joint_feed.specs.Stories.{Story, state_at}
use Rattle.joint_run.specs.Joint.{Beside, joint_board, log_of}
use Rattle.joint_run.specs.Run.{World, joint_step, step_on}
use Rattle.run_loop.specs.declared.ending.End.{End}
use Rattle.run_loop.specs.declared.ending.End.TheVariants.{Reached, Stuck}
use Rattle.run_loop.specs.declared.ending.Ending.TheVariants.{Stamp}
use Rattle.run_loop.specs.Running.{EndsAt, GoesOnTo, IsStuckAt, is_over, place_of}
use Rattle.run_loop.proofs.Steps.{step_later}
use Rattle.run_loop.proofs.Held.{stuck_where_none}

-- the outcome of a run that ends at a state
abbrev pub outcome_at : ℕ → World Beside → End → Outcome
outcome_at k w end = record { log = log_of w.board; end = end; mcu = w.cpu; steps = k; cycles = w.cycle }

module _ (s : Story) where
  -- a run that has gone on to a state and ends there has that outcome
  pub comes_to : (k : ℕ) (w : World Beside) (end : End) → GoesOnTo Stamp s k → state_at s k ≡ Some w → EndsAt Stamp s k w end
      → IsOutcome s (outcome_at k w end)
  comes_to k w end on there h =
      record { world = w; goes_on = on; reached = there; ends = h; processor = refl; cycles = refl; log = refl }

  -- where no state follows it is stuck
  pub is_stuck : (k : ℕ) (w : World Beside) → state_at s k ≡ Some w → is_over Stamp s w ≡ false → state_at s (suc k) ≡ None
      → IsStuckAt Stamp s k w (place_of s.bytes w.cpu)
  is_stuck k w there before none =
      let step : joint_step (joint_board s.edges s.events) s.bytes w ≡ None =
      sym (ap (step_on (joint_board s.edges s.events) s.bytes) there) ∙ none in
      record { before_end = before; no_row = stuck_where_none s w step; none = none; at = refl }

  -- a run that ends after the first k steps at least
  abbrev pub EndsAfter : ℕ → Type 0
  EndsAfter k = (run : Outcome) × (k ≤ run.steps) × IsOutcome s run

  ends_here : (k : ℕ) (w : World Beside) (end : End) → GoesOnTo Stamp s k → state_at s k ≡ Some w → EndsAt Stamp s k w end → EndsAfter k
  ends_here k w end on there h = (outcome_at k w end, omega arith, comes_to k w end on there h)

  -- the run ends, since each step takes a cycle at least
  pub ends_within : (most k : ℕ) (w : World Beside) → GoesOnTo Stamp s k → state_at s k ≡ Some w → 4096 + s.stop ≤ w.cycle + most
      → EndsAfter k
  ends_within zero k w on there l =
      let over : is_over Stamp s w ≡ true = grind (arith, nat_tests, l) in
      ends_here k w Reached on there over
  ends_within (suc most) k w on there l =
      elim (is_over Stamp s w) as (λ b. is_over Stamp s w ≡ b → EndsAfter k) [
        | true ↦ λ over. ends_here k w Reached on there over
        | false ↦ λ before. elim (state_at s (suc k)) as (λ o. state_at s (suc k) ≡ o → EndsAfter k) [
          | None ↦ λ none. ends_here k w (Stuck (place_of s.bytes w.cpu)) on there (is_stuck k w there before none)
          | Some v ↦ λ next.
              let later = (step_later s k w v there next).0 in
              let rest = ends_within most (suc k) v (on, w, there, before) next (omega (arith, l, later)) in
              let far = rest.1 in
              (rest.0, omega (arith, far), rest.2)
        ] refl
      ] refl
