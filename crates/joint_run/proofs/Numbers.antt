-- A tick start that is reached from one start to the next is reached by that many steps of the run, with its number.
use Rattle.std.proofs.Common.{◌≡◌, ℕ, suc, zero, ◌+◌, List, Bool, true, false, Some, None, refl, ap, ◌∙◌, arith}
use Rattle.std.specs.declared.option.Option.{Option}
use Rattle.mcs48_core.specs.Status.{digit}
use Rattle.joint_run.specs.Run.{Board, World, joint_step, step_on, run_at}
use Rattle.joint_run.specs.Starts.{at_tick, start_in, starts_before, calm, IsNth}

module _ (d : Board) (tick_pc : ℕ) (bytes : List ℕ) (from : World d.State) where
  -- so many steps from the start of the run, and so many tick starts before them
  abbrev Reaches : ℕ → World d.State → ℕ → Type 0
  Reaches k e n = (run_at d bytes from k ≡ Some e) × (starts_before d tick_pc bytes from k ≡ n)

  calm_by : (n k : ℕ) (w e : World d.State)
      → ((t : World d.State) → run_at d bytes from (suc k) ≡ Some t
      → calm d tick_pc bytes n t ≡ Some e → Reaches (suc k + n) e (starts_before d tick_pc bytes from (suc k)))
      → run_at d bytes from k ≡ Some w → (b : Bool) → at_tick d tick_pc w ≡ b → (o : Option (World d.State)) → joint_step d bytes w ≡ o
      → (elim (elim b as (λ v. Option (World d.State)) [ true ↦ None | false ↦ o ]) as (λ v. Option (World d.State)) [
        | None ↦ None
        | Some t ↦ calm d tick_pc bytes n t
      ]) ≡ Some e
      → Reaches (k + suc n) e (starts_before d tick_pc bytes from k)
  calm_by n k w e ih r true a o j h = absurd (cc h)
  calm_by n k w e ih r false a None j h = absurd (cc h)
  calm_by n k w e ih r false a (Some t) j h =
      let s : k + suc n ≡ suc k + n = omega arith in
      let none : starts_before d tick_pc bytes from k + 0 ≡ starts_before d tick_pc bytes from k = omega arith in
      let count : starts_before d tick_pc bytes from (suc k) ≡ starts_before d tick_pc bytes from k =
      ap (λ o. starts_before d tick_pc bytes from k + start_in d tick_pc o) r ∙ ap (λ b. starts_before d tick_pc bytes from k + digit b) a ∙ none in
      let g = ih t (ap (λ o. step_on d bytes o) r ∙ j) h in
      (ap (λ i. run_at d bytes from i) s ∙ g.0, ap (λ i. starts_before d tick_pc bytes from i) s ∙ g.1 ∙ count)

  calm_on : (n k : ℕ) (w e : World d.State)
      → run_at d bytes from k ≡ Some w → calm d tick_pc bytes n w ≡ Some e → Reaches (k + n) e (starts_before d tick_pc bytes from k)
  calm_on zero k w e r h =
      let z : k + 0 ≡ k = omega arith in
      (ap (λ i. run_at d bytes from i) z ∙ r ∙ h, ap (λ i. starts_before d tick_pc bytes from i) z)
  calm_on (suc n) k w e r h = calm_by n k w e (λ t s c. calm_on n (suc k) t e s c) r (at_tick d tick_pc w) refl (joint_step d bytes w) refl h

  -- the tick start of a number is reached by steps of the run, with as many starts before it
  pub nth_reached : (n : ℕ) (w : World d.State) → IsNth d tick_pc bytes from n w → (k : ℕ) × Reaches k w n
  nth_reached zero w h =
      let c = calm_on h.steps 0 from h.end refl h.run in
      (0 + h.steps, (c.0 ∙ ap (λ e. Some e) h.goal, c.1))
  nth_reached (suc n) w h =
      let r = nth_reached n h.0 h.1 in
      let t = h.2 in
      let here : run_at d bytes from (suc r.0) ≡ Some t.first = ap (λ o. step_on d bytes o) r.1.0 ∙ t.step in
      let one : n + 1 ≡ suc n = omega arith in
      let count : starts_before d tick_pc bytes from (suc r.0) ≡ suc n =
      ap (λ o. starts_before d tick_pc bytes from r.0 + start_in d tick_pc o) r.1.0 ∙ ap (λ b. starts_before d tick_pc bytes from r.0 + digit b) t.at
      ∙ ap (λ i. i + 1) r.1.1 ∙ one in
      let c = calm_on t.rest.steps (suc r.0) t.first t.rest.end here t.rest.run in
      (suc r.0 + t.rest.steps, (c.0 ∙ ap (λ e. Some e) t.rest.goal, c.1 ∙ count))
