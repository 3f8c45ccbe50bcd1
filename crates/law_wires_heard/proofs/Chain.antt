-- Steps on the way from a tick start to the next, by their latch.
use Rattle.std.proofs.Common.{◌≡◌, ◌≤◌, ◌<◌, ℕ, suc, zero, ◌+◌, ◌-◌, List, Bool, true, false, Some, None, refl, ap, sym, ◌∙◌, subst, arith}
use Rattle.std.proofs.lemmas.Bool.Decides.{nat_tests}
use Rattle.std.specs.Prelude.{◌==◌}
use Rattle.std.specs.declared.option.Option.{Option}
use Rattle.fw_kernel.specs.declared.labels.TheConstants.{TICK}
use Rattle.law_fw_link.specs.Drives.{Drives, DrivesTick}
use Rattle.fw_ticks.proofs.Numbers.{calm_reaches}
use Rattle.joint_feed.specs.Stories.{Story, state_at}
use Rattle.joint_run.specs.Joint.{Beside, joint_board, joint_start_of}
use Rattle.joint_run.specs.Run.{Board, World, joint_step, step_on}
use Rattle.joint_run.specs.Starts.{calm, calm_step, starts_before, start_in}
use Rattle.mcs48_core.specs.Status.{digit}
use Rattle.law_wires_heard.proofs.Pulls.{same_state}

module _ (d : Board) (tick : ℕ) (bytes : List ℕ) where
  prefix_by : (m n : ℕ) (e : World d.State) (o : Option (World d.State))
      → ((t : World d.State) → calm d tick bytes n t ≡ Some e → (u : World d.State) × (calm d tick bytes m t ≡ Some u))
      → elim o as (λ v. Option (World d.State)) [ None ↦ None | Some t ↦ calm d tick bytes n t ] ≡ Some e
      → (u : World d.State) × (elim o as (λ v. Option (World d.State)) [ None ↦ None | Some t ↦ calm d tick bytes m t ] ≡ Some u)
  prefix_by m n e None f h = absurd cc
  prefix_by m n e (Some t) f h = f t h

  -- a run has its first steps
  pub has_first : (m n : ℕ) (w e : World d.State)
      → m ≤ n → calm d tick bytes n w ≡ Some e → (u : World d.State) × (calm d tick bytes m w ≡ Some u)
  has_first zero n w e l h = (w, refl)
  has_first (suc m) zero w e l h = absurd (omega (arith, l))
  has_first (suc m) (suc n) w e l h =
      prefix_by m n e (calm_step d tick bytes w) (λ t g. has_first m n t e (omega (arith, l)) g) h

-- over the joint run
module _ (s : Story) where
  abbrev d : Board
  d = joint_board s.edges s.events

  -- the latch in each cycle of the steps from one number to another
  abbrev pub Latches : ℕ → ℕ → (ℕ → ℕ) → Type 0
  Latches k0 k1 latch = (j : ℕ) (one next : World Beside) → k0 ≤ j → j < k1 → state_at s j ≡ Some one → state_at s (suc j) ≡ Some next
      → (c : ℕ) → one.cycle ≤ c → c < next.cycle → next.cpu.p2 ≡ latch c

  step_is : (j : ℕ) (one next : World Beside)
      → state_at s j ≡ Some one → state_at s (suc j) ≡ Some next → joint_step d s.bytes one ≡ Some next
  step_is j one next a b = sym (ap (λ o. step_on d s.bytes o) a) ∙ b

  -- steps that meet no tick start
  pub calm_latches : (k : ℕ) (w : World Beside) (latch : ℕ → ℕ) (Q : World Beside → Type 0) → state_at s k ≡ Some w
      → (r : Drives d TICK s.bytes w latch Q) → Latches k (k + r.steps) latch
  calm_latches k w latch Q at r j one next a b from to c l u =
      let m : ℕ = j - k in
      let few : m < r.steps = omega (arith, a, b) in
      let h = has_first d TICK s.bytes m r.steps w r.end (omega (arith, few)) r.run in
      let z : k + m ≡ j = omega (arith, a) in
      let there : state_at s j ≡ Some h.0 =
      ap (λ i. state_at s i) (sym z) ∙ (calm_reaches d TICK s.bytes (joint_start_of s.held) m k w h.0 at h.1).0 in
      let same : h.0 ≡ one = same_state s j h.0 one there from in
      r.latches m c one next few (h.1 ∙ ap (λ v. Some v) same) (step_is j one next from to) l u

  -- a way without a tick start leads to a state of the run, with as many starts before it
  pub calm_ends : (k : ℕ) (w : World Beside) (latch : ℕ → ℕ) (Q : World Beside → Type 0) → state_at s k ≡ Some w
      → (r : Drives d TICK s.bytes w latch Q) → (state_at s (k + r.steps) ≡ Some r.end)
      × (starts_before d TICK s.bytes (joint_start_of s.held) (k + r.steps) ≡ starts_before d TICK s.bytes (joint_start_of s.held) k)
  calm_ends k w latch Q at r = calm_reaches d TICK s.bytes (joint_start_of s.held) r.steps k w r.end at r.run

  -- from a tick start
  pub tick_at : (k : ℕ) (w : World Beside) (latch : ℕ → ℕ) (Q : World Beside → Type 0) → state_at s k ≡ Some w
      → (t : DrivesTick d TICK s.bytes w latch Q) → state_at s (suc k) ≡ Some t.first
  tick_at k w latch Q at t = ap (λ o. step_on d s.bytes o) at ∙ t.step

  -- in each cycle of a tick's steps the latch is that which the law of the tick says
  pub tick_latches : (k : ℕ) (w : World Beside) (latch : ℕ → ℕ) (Q : World Beside → Type 0) → state_at s k ≡ Some w
      → (t : DrivesTick d TICK s.bytes w latch Q) → Latches k (suc k + t.rest.steps) latch
  tick_latches k w latch Q at t j one next a b from to c l u = by (j == k) refl
    where
      by : (q : Bool) → (j == k) ≡ q → next.cpu.p2 ≡ latch c
      by true e =
          let is : j ≡ k = grind (arith, nat_tests, e) in
          let here : one ≡ w = same_state s k one w (ap (λ i. state_at s i) (sym is) ∙ from) at in
          let first : next ≡ t.first =
          same_state s (suc k) next t.first (ap (λ i. state_at s (suc i)) (sym is) ∙ to) (tick_at k w latch Q at t) in
          let low : w.cycle ≤ c = subst (λ (v : World Beside). v.cycle ≤ c) here l in
          let high : c < t.first.cycle = subst (λ (v : World Beside). c < v.cycle) first u in
          ap (λ (v : World Beside). v.cpu.p2) first ∙ t.put c low high
      by false e =
          let more : suc k ≤ j = grind (arith, nat_tests, e, a) in
          calm_latches (suc k) t.first latch Q (tick_at k w latch Q at t) t.rest j one next more b from to c l u

  -- a tick leads to a state of the run, with one start more before it
  pub tick_ends : (k : ℕ) (w : World Beside) (latch : ℕ → ℕ) (Q : World Beside → Type 0) → state_at s k ≡ Some w
      → (t : DrivesTick d TICK s.bytes w latch Q) → (state_at s (suc k + t.rest.steps) ≡ Some t.rest.end)
      × (starts_before d TICK s.bytes (joint_start_of s.held) (suc k + t.rest.steps)
      ≡ starts_before d TICK s.bytes (joint_start_of s.held) k + 1)
  tick_ends k w latch Q at t =
      let r = calm_ends (suc k) t.first latch Q (tick_at k w latch Q at t) t.rest in
      let one : starts_before d TICK s.bytes (joint_start_of s.held) (suc k) ≡ starts_before d TICK s.bytes (joint_start_of s.held) k + 1 =
      ap (λ o. starts_before d TICK s.bytes (joint_start_of s.held) k + start_in d TICK o) at
      ∙ ap (λ b. starts_before d TICK s.bytes (joint_start_of s.held) k + digit b) t.at in
      (r.0, r.1 ∙ one)
