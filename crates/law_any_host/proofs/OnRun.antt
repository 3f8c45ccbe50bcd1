-- The latch of port 2 and the board in each cycle of a run, by its ticks.
use Rattle.std.proofs.Common.{◌≡◌, ◌≤◌, ◌<◌, ℕ, zero, suc, ◌+◌, Bool, true, false, nat_lt, List, Some, None}
use Rattle.std.proofs.Common.{refl, ap, sym, ◌∙◌, subst, arith}
use Rattle.std.proofs.lemmas.Bool.Decides.{nat_tests}
use Rattle.std.specs.declared.option.Option.{Option}
use Rattle.fw_kernel.specs.declared.labels.TheConstants.{TICK}
use Rattle.law_fw_link.proofs.Wired.{ticks_alike}
use Rattle.law_fw_link.specs.Drives.{Drives, DrivesTick}
use Rattle.law_fw_logic.proofs.Blocks.{ticks_add}
use Rattle.fw_ticks.proofs.Numbers.{calm_reaches, same_start}
use Rattle.joint_run.specs.Run.{Board, World, after_cycles, after_step, joint_step, run_at, seen, step_on}
use Rattle.joint_run.specs.Starts.{IsStart, at_tick, calm, start_in, starts_before}
use Rattle.mcs48_core.specs.Status.{digit}
use Rattle.mcs48_core.specs.Step.{Stepped, stepped}
use Rattle.law_any_host.specs.AnyHost.{driven_to}

some_same : {A : Type 0} (a b : A) → Some a ≡ Some b → a ≡ b
some_same a b e = cc

module _ (d : Board) (bytes : List ℕ) (from : World d.State) (begins : from.cycle ≡ 0) (latch : ℕ → ℕ)
    (of_run : (k c : ℕ) (one next : World d.State) → run_at d bytes from k ≡ Some one → joint_step d bytes one ≡ Some next
    → one.cycle ≤ c → c < next.cycle → next.cpu.p2 ≡ latch c) where
  abbrev f : ℕ → d.State → d.State
  f c = d.cycle (latch c) c

  -- the board in a state of the run
  by_step : (k : ℕ) (one w : World d.State) → run_at d bytes from k ≡ Some one → one.board ≡ driven_to d latch from.board one.cycle
      → joint_step d bytes one ≡ Some w → (x : Option Stepped) → stepped bytes (seen d one) one.cpu ≡ x
      → w.board ≡ driven_to d latch from.board w.cycle
  by_step k one w run here step None is =
      let no : joint_step d bytes one ≡ None = ap (λ o. after_step d one o) is in absurd (let e : None ≡ Some w = sym no ∙ step in cc)
  by_step k one w run here step (Some n) is =
      let z : World d.State =
      record {
        cpu = n.cpu;
        board = after_cycles n.cycles one.cycle (d.cycle n.cpu.p2) one.board;
        cycle = one.cycle + n.cycles;
      } in
      let e : Some z ≡ Some w = sym (ap (λ o. after_step d one o) is) ∙ step in
      let same : z ≡ w = some_same z w e in
      let made : joint_step d bytes one ≡ Some z = ap (λ o. after_step d one o) is in
      let p : 0 + one.cycle ≡ one.cycle = omega arith in
      let board : z.board ≡ driven_to d latch from.board z.cycle =
      ticks_alike n.cycles one.cycle one.cycle (d.cycle n.cpu.p2) f one.board
      (λ i t l. ap (λ v. d.cycle v (one.cycle + i) t)
      (of_run k (one.cycle + i) one z run made (omega arith) (omega (arith, l))))
      ∙ ap (λ b. after_cycles n.cycles one.cycle f b) here
      ∙ ap (λ c. after_cycles n.cycles c f (driven_to d latch from.board one.cycle)) (sym p)
      ∙ sym (ticks_add one.cycle n.cycles 0 f from.board) in
      subst (λ (w : World d.State). w.board ≡ driven_to d latch from.board w.cycle) same board

  by_state : (k : ℕ) (w : World d.State) → (o : Option (World d.State)) → run_at d bytes from k ≡ o
      → ((u : World d.State) → run_at d bytes from k ≡ Some u → u.board ≡ driven_to d latch from.board u.cycle)
      → step_on d bytes o ≡ Some w → w.board ≡ driven_to d latch from.board w.cycle
  by_state k w None run ih e = absurd cc
  by_state k w (Some one) run ih e =
      by_step k one w run (ih one run) e (stepped bytes (seen d one) one.cpu) refl

  -- the board of a run is that which the latch of each cycle makes of the first one
  pub board_is : (k : ℕ) (w : World d.State) → run_at d bytes from k ≡ Some w → w.board ≡ driven_to d latch from.board w.cycle
  board_is zero w e =
      subst (λ (w : World d.State). w.board ≡ driven_to d latch from.board w.cycle) (some_same from w e)
      (sym (ap (λ c. driven_to d latch from.board c) begins))
  board_is (suc k) w e = by_state k w (run_at d bytes from k) refl (λ u r. board_is k u r) e

  -- what a law says of the latch on a way is so of the latch of each cycle there
  abbrev Latches : ℕ → World d.State → (ℕ → ℕ) → Type 0
  Latches n v l =
      (k c : ℕ) (one next : World d.State) → k < n → calm d TICK bytes k v ≡ Some one → joint_step d bytes one ≡ Some next
      → one.cycle ≤ c → c < next.cycle → next.cpu.p2 ≡ l c

  abbrev then_on : ℕ → Option (World d.State) → Option (World d.State)
  then_on k o = elim o as (λ y. Option (World d.State)) [ None ↦ None | Some next ↦ calm d TICK bytes k next ]

  abbrev unless : World d.State → Bool → Option (World d.State) → Option (World d.State)
  unless v b o = elim b as (λ y. Option (World d.State)) [ true ↦ None | false ↦ o ]

  on_by : (n kg : ℕ) (v e : World d.State) (l : ℕ → ℕ) (c : ℕ) → run_at d bytes from kg ≡ Some v → Latches (suc n) v l
      → v.cycle ≤ c
      → ((t : World d.State) → run_at d bytes from (suc kg) ≡ Some t → calm d TICK bytes n t ≡ Some e → Latches n t l
      → t.cycle ≤ c → latch c ≡ l c)
      → (b : Bool) → at_tick d TICK v ≡ b → (o : Option (World d.State)) → joint_step d bytes v ≡ o
      → then_on n (unless v b o) ≡ Some e → latch c ≡ l c
  on_by n kg v e l c run h a ih true at o step way = absurd cc
  on_by n kg v e l c run h a ih false at None step way = absurd cc
  on_by n kg v e l c run h a ih false at (Some t) step way = by (nat_lt c t.cycle) refl
    where
      by : (b : Bool) → nat_lt c t.cycle ≡ b → latch c ≡ l c
      by true s =
          let early : c < t.cycle = grind (arith, nat_tests, s) in
          sym (of_run kg c v t run step a early) ∙ h 0 c v t (omega arith) refl step a early
      by false s =
          ih t (ap (λ o. step_on d bytes o) run ∙ step) way
          (λ k c one next l at' step' a u.
          h (suc k) c one next (omega (arith, l))
          (ap (λ b. then_on k (unless v b (joint_step d bytes v))) at ∙ ap (λ o. then_on k (unless v false o)) step ∙ at') step' a u)
          (grind (arith, nat_tests, s))

  -- what a law says of the latch on a way from a tick start is so of the latch in each cycle there
  pub on_way : (n kg : ℕ) (v e : World d.State) (l : ℕ → ℕ) (c : ℕ) → run_at d bytes from kg ≡ Some v
      → calm d TICK bytes n v ≡ Some e → Latches n v l → v.cycle ≤ c → c < e.cycle → latch c ≡ l c
  on_way zero kg v e l c run way h a u =
      let same : v.cycle ≡ e.cycle = ap (λ (w : World d.State). w.cycle) (some_same v e way) in absurd (omega (arith, same, a, u))
  on_way (suc n) kg v e l c run way h a u =
      on_by n kg v e l c run h a (λ t r w g b. on_way n (suc kg) t e l c r w g b u) (at_tick d TICK v) refl
      (joint_step d bytes v) refl way

  -- in a tick, up to the next start
  pub in_tick_run : (n stamp next : ℕ) (s : IsStart d TICK bytes from n stamp) → IsStart d TICK bytes from (suc n) next
      → (l : ℕ → ℕ) (Q : World d.State → Type 0) → ((e : World d.State) → Q e → at_tick d TICK e ≡ true)
      → DrivesTick d TICK bytes s.state l Q → (c : ℕ) → s.state.cycle ≤ c → c < 4096 + next → latch c ≡ l c
  in_tick_run n stamp next s t l Q starts g c a u = by (nat_lt c g.first.cycle) refl
    where
      ends : c < g.rest.end.cycle
      ends =
          let count : starts_before d TICK bytes from (suc s.steps) ≡ starts_before d TICK bytes from s.steps + 1 =
          ap (λ o. starts_before d TICK bytes from s.steps + start_in d TICK o) s.reached
          ∙ ap (λ b. starts_before d TICK bytes from s.steps + digit b) s.at in
          let number : starts_before d TICK bytes from s.steps ≡ n = s.number in
          let r = calm_reaches d TICK bytes from g.rest.steps (suc s.steps) g.first g.rest.end
          (ap (λ o. step_on d bytes o) s.reached ∙ g.step) g.rest.run in
          let all : starts_before d TICK bytes from (suc s.steps) ≡ suc n = omega (arith, count, number) in
          let same : g.rest.end ≡ t.state =
          same_start d TICK bytes from (suc s.steps + g.rest.steps) t.steps g.rest.end t.state r.0 t.reached
          (starts g.rest.end g.rest.goal) t.at (r.1 ∙ all ∙ sym t.number) in
          let cycle : g.rest.end.cycle ≡ t.state.cycle = ap (λ (w : World d.State). w.cycle) same in
          let there : t.state.cycle ≡ 4096 + next = t.cycle in
          omega (arith, u, cycle, there)

      by : (b : Bool) → nat_lt c g.first.cycle ≡ b → latch c ≡ l c
      by true e =
          let early : c < g.first.cycle = grind (arith, nat_tests, e) in
          sym (of_run s.steps c s.state g.first s.reached g.step a early) ∙ g.put c a early
      by false e =
          on_way g.rest.steps (suc s.steps) g.first g.rest.end l c (ap (λ o. step_on d bytes o) s.reached ∙ g.step) g.rest.run
          g.rest.latches (grind (arith, nat_tests, e)) ends

  -- up to the first start
  pub up_to_first : (stamp : ℕ) → IsStart d TICK bytes from 0 stamp → (l : ℕ → ℕ) (Q : World d.State → Type 0)
      → ((e : World d.State) → Q e → at_tick d TICK e ≡ true) → Drives d TICK bytes from l Q → (c : ℕ) → c < 4096 + stamp
      → latch c ≡ l c
  up_to_first stamp t l Q starts g c u =
      let r = calm_reaches d TICK bytes from g.steps 0 from g.end refl g.run in
      let same : g.end ≡ t.state =
      same_start d TICK bytes from (0 + g.steps) t.steps g.end t.state r.0 t.reached (starts g.end g.goal) t.at
      (r.1 ∙ sym t.number) in
      let cycle : g.end.cycle ≡ t.state.cycle = ap (λ (w : World d.State). w.cycle) same in
      let there : t.state.cycle ≡ 4096 + stamp = t.cycle in
      on_way g.steps 0 from g.end l c refl g.run g.latches (omega (arith, begins)) (omega (arith, u, cycle, there))

  -- the board so many cycles past a start, by a latch that is the run's there
  pub board_past : (n stamp : ℕ) (s : IsStart d TICK bytes from n stamp) (l : ℕ → ℕ) (o : ℕ)
      → ((i : ℕ) → i < o → latch (s.state.cycle + i) ≡ l i)
      → driven_to d latch from.board (s.state.cycle + o) ≡ after_cycles o 0 (λ i. d.cycle (l i) (s.state.cycle + i)) s.state.board
  board_past n stamp s l o same =
      let p : 0 + s.state.cycle ≡ s.state.cycle = omega arith in
      ticks_add s.state.cycle o 0 f from.board
      ∙ ap (λ c. after_cycles o c f (driven_to d latch from.board s.state.cycle)) p
      ∙ ap (λ b. after_cycles o s.state.cycle f b) (sym (board_is s.steps s.state s.reached))
      ∙ ticks_alike o s.state.cycle 0 f (λ i. d.cycle (l i) (s.state.cycle + i)) s.state.board
      (λ i t m. let z : i ≡ 0 + i = omega arith in
      ap (λ v. d.cycle v (s.state.cycle + i) t) (same i m)
      ∙ ap (λ i. d.cycle (l i) (s.state.cycle + i) t) z)
