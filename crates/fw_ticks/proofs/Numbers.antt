-- The n-th tick start in the words of the joint run: after how many steps it comes, and how many starts were before it.
use Rattle.std.proofs.Common.{◌≡◌, ◌≤◌, ◌<◌, ℕ, suc, zero, ◌+◌, List, Bool, true, false, leb, ltb, ◌-◌, Some, None}
use Rattle.std.proofs.Common.{refl, ap, sym, ◌∙◌, subst, arith}
use Rattle.std.proofs.lemmas.Bool.Decides.{nat_tests}
use Rattle.std.specs.declared.option.Option.{Option}
use Rattle.mcs48_core.specs.Status.{digit}
use Rattle.joint_run.specs.Run.{Board, World, joint_step, step_on, run_at}
use Rattle.joint_run.specs.Starts.{at_tick, calm, IsNth, start_in, starts_before}

-- a state that a run reaches after so many steps, with so many tick starts before it
pub record Reached (d : Board) (tick : ℕ) (bytes : List ℕ) (from : World d.State) (n : ℕ)
    (w : World d.State) : Type 0 where
  pub steps : ℕ
  pub run : run_at d bytes from steps ≡ Some w
  pub count : starts_before d tick bytes from steps ≡ n

module _ (d : Board) (tick : ℕ) (bytes : List ℕ) (from : World d.State) where
  -- one step more
  step_more : (k : ℕ) (w e : World d.State) → run_at d bytes from k ≡ Some w → joint_step d bytes w ≡ Some e
      → run_at d bytes from (suc k) ≡ Some e
  step_more k w e run step = ap (λ o. step_on d bytes o) run ∙ step

  count_more : (k : ℕ) (w : World d.State) (b : Bool) → run_at d bytes from k ≡ Some w → at_tick d tick w ≡ b
      → starts_before d tick bytes from (suc k) ≡ starts_before d tick bytes from k + digit b
  count_more k w b run at =
      ap (λ o. starts_before d tick bytes from k + start_in d tick o) run
      ∙ ap (λ c. starts_before d tick bytes from k + digit c) at

  -- steps that meet no tick start
  abbrev Reaches : ℕ → ℕ → World d.State → Type 0
  Reaches k count e = (run_at d bytes from k ≡ Some e) × (starts_before d tick bytes from k ≡ count)

  calm_by : (n k : ℕ) (w e : World d.State)
      → ((t : World d.State) → run_at d bytes from (suc k) ≡ Some t → calm d tick bytes n t ≡ Some e
      → Reaches (suc k + n) (starts_before d tick bytes from (suc k)) e)
      → run_at d bytes from k ≡ Some w → (b : Bool) → at_tick d tick w ≡ b → (o : Option (World d.State))
      → joint_step d bytes w ≡ o
      → (elim (elim b as (λ v. Option (World d.State)) [ true ↦ None | false ↦ o ]) as (λ v. Option (World d.State)) [
        | None ↦ None
        | Some t ↦ calm d tick bytes n t
      ]) ≡ Some e → Reaches (k + suc n) (starts_before d tick bytes from k) e
  calm_by n k w e ih run true at o step h = absurd cc
  calm_by n k w e ih run false at None step h = absurd cc
  calm_by n k w e ih run false at (Some t) step h =
      let r = ih t (step_more k w t run step) h in
      let sum : k + suc n ≡ suc k + n = omega arith in
      let same : starts_before d tick bytes from (suc k) ≡ starts_before d tick bytes from k + 0 =
      count_more k w false run at in
      let none : starts_before d tick bytes from (suc k) ≡ starts_before d tick bytes from k = omega (arith, same) in
      subst (λ j. Reaches j (starts_before d tick bytes from k) e) (sym sum) (r.0, r.1 ∙ none)

  -- steps that meet no tick start lead on in the run, with as many starts before
  pub calm_reaches : (n k : ℕ) (w e : World d.State) → run_at d bytes from k ≡ Some w → calm d tick bytes n w ≡ Some e
      → Reaches (k + n) (starts_before d tick bytes from k) e
  calm_reaches zero k w e run h =
      let z : k + 0 ≡ k = omega arith in
      subst (λ j. Reaches j (starts_before d tick bytes from k) e) (sym z) (run ∙ h, refl)
  calm_reaches (suc n) k w e run h =
      calm_by n k w e (λ t run' g. calm_reaches n (suc k) t e run' g) run (at_tick d tick w) refl (joint_step d bytes w)
      refl h

  -- the n-th tick start
  pub nth_reached : (n : ℕ) (w : World d.State) → IsNth d tick bytes from n w → Reached d tick bytes from n w
  nth_reached zero w h =
      let r = calm_reaches h.steps 0 from h.end refl h.run in
      record { steps = 0 + h.steps; run = r.0 ∙ ap (λ e. Some e) h.goal; count = r.1 }
  nth_reached (suc n) w h =
      let v = h.0 in
      let t = h.2 in
      let q = nth_reached n v h.1 in
      let here = step_more q.steps v t.first q.run t.step in
      let r = calm_reaches t.rest.steps (suc q.steps) t.first t.rest.end here t.rest.run in
      let one : starts_before d tick bytes from (suc q.steps) ≡ starts_before d tick bytes from q.steps + 1 =
      count_more q.steps v true q.run t.at in
      let so : starts_before d tick bytes from q.steps ≡ n = q.count in
      let all : starts_before d tick bytes from (suc q.steps) ≡ suc n = omega (arith, one, so) in
      record { steps = suc q.steps + t.rest.steps; run = r.0 ∙ ap (λ e. Some e) t.rest.goal; count = r.1 ∙ all }

  -- the count never falls, and rises after a start
  up : (k m : ℕ) → starts_before d tick bytes from k ≤ starts_before d tick bytes from (k + m)
  up k zero = let z : k + 0 ≡ k = omega arith in rw z (omega arith)
  up k (suc m) =
      let s : k + suc m ≡ suc (k + m) = omega arith in
      let l : starts_before d tick bytes from k ≤ starts_before d tick bytes from (k + m) = up k m in
      rw s (omega (arith, l))

  rises : (i j : ℕ) (w : World d.State) → run_at d bytes from i ≡ Some w → at_tick d tick w ≡ true → i < j
      → starts_before d tick bytes from i < starts_before d tick bytes from j
  rises i j w run at l =
      let s : suc i + (j - suc i) ≡ j = omega (arith, l) in
      let one : starts_before d tick bytes from (suc i) ≡ starts_before d tick bytes from i + 1 =
      count_more i w true run at in
      let more : starts_before d tick bytes from (suc i) ≤ starts_before d tick bytes from (suc i + (j - suc i)) =
      up (suc i) (j - suc i) in
      subst (λ k. starts_before d tick bytes from i < starts_before d tick bytes from k) s (omega (arith, one, more))

  -- two tick starts with one number are one
  pub same_place : (i j : ℕ) (v w : World d.State) → run_at d bytes from i ≡ Some v → run_at d bytes from j ≡ Some w
      → at_tick d tick v ≡ true → at_tick d tick w ≡ true
      → starts_before d tick bytes from i ≡ starts_before d tick bytes from j → i ≡ j
  same_place i j v w ri rj ai aj e =
      elim (ltb i j) as (λ b. ltb i j ≡ b → i ≡ j) [
        | true ↦ λ h.
            let l : i < j = grind (arith, nat_tests, h) in
            let r : starts_before d tick bytes from i < starts_before d tick bytes from j = rises i j v ri ai l in
            absurd (omega (arith, r, e))
        | false ↦ λ h. elim (ltb j i) as (λ b. ltb j i ≡ b → i ≡ j) [
          | true ↦ λ g.
              let l : j < i = grind (arith, nat_tests, g) in
              let r : starts_before d tick bytes from j < starts_before d tick bytes from i = rises j i w rj aj l in
              absurd (omega (arith, r, e))
          | false ↦ λ g. grind (arith, nat_tests, h, g)
        ] refl
      ] refl

  -- two tick starts with as many before them are one state
  pub same_start : (i j : ℕ) (v w : World d.State) → run_at d bytes from i ≡ Some v → run_at d bytes from j ≡ Some w
      → at_tick d tick v ≡ true → at_tick d tick w ≡ true
      → starts_before d tick bytes from i ≡ starts_before d tick bytes from j → v ≡ w
  same_start i j v w ri rj ai aj e =
      let s = same_place i j v w ri rj ai aj e in
      let r : Some v ≡ Some w = sym ri ∙ ap (λ k. run_at d bytes from k) s ∙ rj in
      cc r

  -- a run that reaches a state has all states before it
  abbrev Has : ℕ → Type 0
  Has k = (v : World d.State) × (run_at d bytes from k ≡ Some v)

  earlier_by : (k m : ℕ) (w : World d.State) → ((u : World d.State) → run_at d bytes from (k + m) ≡ Some u → Has k)
      → (o : Option (World d.State)) → run_at d bytes from (k + m) ≡ o → step_on d bytes o ≡ Some w → Has k
  earlier_by k m w ih None e g = absurd cc
  earlier_by k m w ih (Some u) e g = ih u e

  earlier : (k m : ℕ) (w : World d.State) → run_at d bytes from (k + m) ≡ Some w → Has k
  earlier k zero w h = let z : k + 0 ≡ k = omega arith in (w, ap (λ j. run_at d bytes from j) (sym z) ∙ h)
  earlier k (suc m) w h =
      let s : k + suc m ≡ suc (k + m) = omega arith in
      earlier_by k m w (λ u e. earlier k m u e) (run_at d bytes from (k + m)) refl
      (ap (λ j. run_at d bytes from j) (sym s) ∙ h)

  few : (k : ℕ) → starts_before d tick bytes from k ≤ k
  few zero = omega arith
  few (suc k) =
      let l : starts_before d tick bytes from k ≤ k = few k in
      by (run_at d bytes from k) l
    where
      by : (o : Option (World d.State)) → starts_before d tick bytes from k ≤ k
          → starts_before d tick bytes from k + start_in d tick o ≤ suc k
      by None l = omega (arith, l)
      by (Some u) l = let b : digit (at_tick d tick u) ≤ 1 = small (at_tick d tick u) in omega (arith, l, b)
        where
          small : (b : Bool) → digit b ≤ 1
          small true = omega arith
          small false = omega arith

  -- a run with more starts than any number is never stuck
  pub goes_on : ((n : ℕ) → (w : World d.State) × Reached d tick bytes from n w) → (k : ℕ)
      → (v : World d.State) × (run_at d bytes from k ≡ Some v)
  goes_on starts k =
      let r = (starts k).1 in
      let so : starts_before d tick bytes from r.steps ≡ k = r.count in
      let l : starts_before d tick bytes from r.steps ≤ r.steps = few r.steps in
      let sum : k + (r.steps - k) ≡ r.steps = omega (arith, so, l) in
      earlier k (r.steps - k) (starts k).0 (ap (λ j. run_at d bytes from j) sum ∙ r.run)

-- the least number whose value isn't below a bound
pub record Least (g : ℕ → ℕ) (stop : ℕ) : Type 0 where
  pub n : ℕ
  pub reaches : stop ≤ g n
  pub before : (j : ℕ) → j < n → g j < stop

least_from : (g : ℕ → ℕ) (stop k n : ℕ) → ((j : ℕ) → j < n → g j < stop) → stop ≤ g (n + k) → Least g stop
least_from g stop zero n below h =
    let z : n + 0 ≡ n = omega arith in
    record { n = n; reaches = subst (λ i. stop ≤ g i) z h; before = below }
least_from g stop (suc k) n below h =
    elim (leb stop (g n)) as (λ b. leb stop (g n) ≡ b → Least g stop) [
      | true ↦ λ e. record { n = n; reaches = grind (arith, nat_tests, e); before = below }
      | false ↦ λ e.
          let here : g n < stop = grind (arith, nat_tests, e) in
          let c : n + suc k ≡ suc n + k = omega arith in
          least_from g stop k (suc n)
          (λ j l. elim (leb n j) as (λ b. leb n j ≡ b → g j < stop) [
            | true ↦ λ e. let s : n ≡ j = grind (arith, nat_tests, e, l) in subst (λ i. g i < stop) s here
            | false ↦ λ e. below j (grind (arith, nat_tests, e))
          ] refl)
          (subst (λ i. stop ≤ g i) c h)
    ] refl

-- values that are their number at least come to any bound
pub least : (g : ℕ → ℕ) (stop : ℕ) → ((n : ℕ) → n ≤ g n) → Least g stop
least g stop up =
    let z : 0 + stop ≡ stop = omega arith in
    least_from g stop stop 0 (λ j l. absurd (omega (arith, l))) (subst (λ i. stop ≤ g i) (sym z) (up stop))
