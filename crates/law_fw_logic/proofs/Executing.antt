-- Every state of a run, from power-on and through each of its ticks: what is executed there.
use Rattle.std.proofs.Common.{◌≡◌, ◌≤◌, ◌<◌, ◌⊎◌, ℕ, suc, zero, ◌+◌, ◌-◌, ◌%◌, List, Bool, true, false, Some, None}
use Rattle.std.proofs.Common.{nat_lt, refl, ap, sym, ◌∙◌, subst, arith, inl, inr}
use Rattle.std.proofs.lemmas.Bool.Decides.{nat_tests}
use Rattle.std.specs.declared.option.Option.{Option}
use Rattle.fw_kernel.specs.declared.labels.TheConstants.{TICK}
use Rattle.fw_kernel.specs.Places.{HasKernel}
use Rattle.mcs48_core.specs.Cpu.{Cpu}
use Rattle.mcs48_core.specs.Step.{stepped}
use Rattle.joint_run.specs.Run.{Board, World, seen, joint_step, step_on, run_at}
use Rattle.joint_run.specs.Starts.{at_tick, calm, Comes}
use Rattle.law_fw_logic.specs.Executed.{IsFit, LooksLate, LooksSoon, looks}
use Rattle.law_fw_logic.proofs.Between.{IsStart, Resting, Working, WorksOn, works_on, rests_on, begins_work, same_next}
use Rattle.law_fw_logic.proofs.Between.{start_place, along, no_start, step_of}
use Rattle.law_fw_logic.proofs.Late.{main_late, serve_late}
use Rattle.law_fw_logic.proofs.Soon.{main_blind, serves_soon}
use Rattle.law_fw_logic.proofs.Passing.{Passes}
use Rattle.law_fw_logic.proofs.Waking.{Wakes, waking}
use Rattle.law_fw_logic.proofs.Turns.{IsMain, IsServing, main_fit, service_fit}

module _ (d : Board) (bytes : List ℕ) (has : HasKernel bytes) (from : World d.State) (main : IsMain false from.cpu)
    (first : Comes d TICK bytes from (IsStart d bytes)) where
  abbrev Works : World d.State → Type 0
  Works w = Working d bytes has false w

  abbrev Rests : World d.State → Type 0
  Rests w = Resting d bytes has false w

  abbrev Starts : World d.State → Type 0
  Starts w = IsServing false w.cpu × IsStart d bytes w

  abbrev On : World d.State → Type 0
  On w = Works w ⊎ (Rests w ⊎ Starts w)

  on_first : Rests from
  on_first = record { main = main; rest = first }

  -- up to the first start port 1 stays
  abbrev Early : World d.State → Type 0
  Early w = (Rests w ⊎ Starts w) × (w.cpu.p1 ≡ from.cpu.p1)

  early_on : (w next : World d.State) → Early w → at_tick d TICK w ≡ false → joint_step d bytes w ≡ Some next
      → Early next
  early_on w next h off step = by h.0
    where
      by : Rests w ⊎ Starts w → Early next
      by (inl g) = let r = rests_on d bytes has false w next g step in (r.0, r.1 ∙ h.1)
      by (inr g) = absurd (no_start d bytes has false w g.1 off)

  -- before the first tick start a step leaves port 1
  pub before_first : (k : ℕ) (one next : World d.State) → calm d TICK bytes k from ≡ Some one
      → at_tick d TICK one ≡ false → joint_step d bytes one ≡ Some next → next.cpu.p1 ≡ from.cpu.p1
  before_first k one next run off step =
      let there = along d bytes has false Early early_on k from one (inl on_first, refl) run in
      (early_on one next there off step).1

  -- up to the first tick start port 1 is as it was
  pub at_first : (k : ℕ) (e : World d.State) → calm d TICK bytes k from ≡ Some e → e.cpu.p1 ≡ from.cpu.p1
  at_first k e run = (along d bytes has false Early early_on k from e (inl on_first, refl) run).1

  -- each tick start of the run has its way through the tick
  module _ (passes : (k : ℕ) (w : World d.State) → run_at d bytes from k ≡ Some w → IsStart d bytes w
      → Passes d bytes w) where
    from_start : (k : ℕ) (w next : World d.State) → run_at d bytes from k ≡ Some w → Starts w
        → joint_step d bytes w ≡ Some next → On next
    from_start k w next run h step =
        let p = passes k w run h.1 in
        let low : w.cpu.pc < 2048 = (service_fit bytes has w.cpu h.0).place in
        let place : w.cpu.pc % 2048 ≡ 7 = start_place d bytes w h.1 in
        let at : w.cpu.pc ≡ TICK = omega (arith, low, place) in
        inl
        (subst Works (same_next d bytes w p.first next p.step step) (begins_work d bytes has false w h.0 at p))

    goes : (k : ℕ) (w next : World d.State) → run_at d bytes from k ≡ Some w → On w → joint_step d bytes w ≡ Some next
        → On next
    goes k w next run (inl h) step = by (works_on d bytes has false w next h step)
      where
        by : WorksOn d bytes has false w next → On next
        by (inl g) = inl g.0
        by (inr g) = inr (inl g.0)
    goes k w next run (inr (inl h)) step = inr (rests_on d bytes has false w next h step).0
    goes k w next run (inr (inr h)) step = from_start k w next run h step

    each : (k : ℕ) (w : World d.State) → run_at d bytes from k ≡ Some w → On w
    each zero w run = let same : from ≡ w = cc in subst On same (inr (inl on_first))
    each (suc k) w run = by (λ v is. each k v is) (run_at d bytes from k) refl run
      where
        by : ((v : World d.State) → run_at d bytes from k ≡ Some v → On v) → (o : Option (World d.State))
            → run_at d bytes from k ≡ o → step_on d bytes o ≡ Some w → On w
        by before None is step = absurd cc
        by before (Some v) is step = goes k v w is (before v is) step

    -- so each is fit
    pub all_fit : (k : ℕ) (w : World d.State) → run_at d bytes from k ≡ Some w → IsFit bytes w.cpu
    all_fit k w run = by (each k w run)
      where
        by : On w → IsFit bytes w.cpu
        by (inl h) = service_fit bytes has w.cpu h.serving
        by (inr (inl h)) = main_fit bytes has w.cpu h.main
        by (inr (inr h)) = service_fit bytes has w.cpu h.0

    -- and what each step leaves looks late, if it looks
    pub all_late : (k : ℕ) (w next : World d.State) → run_at d bytes from k ≡ Some w → joint_step d bytes w ≡ Some next
        → LooksLate bytes w.cpu next.cpu
    all_late k w next run step = by (each k w run)
      where
        serves : IsServing false w.cpu → LooksLate bytes w.cpu next.cpu
        serves h =
            let s = step_of d bytes w next (stepped bytes (seen d w) w.cpu) step in
            subst (λ (c : Cpu). LooksLate bytes w.cpu c) s.2 (serve_late bytes has false (seen d w) w.cpu s.0 h s.1)

        by : On w → LooksLate bytes w.cpu next.cpu
        by (inl h) = serves h.serving
        by (inr (inl h)) = main_late bytes has false w.cpu next.cpu h.main
        by (inr (inr h)) = serves h.0

    -- and looks again soon, while a byte is sent
    pub all_soon : (k : ℕ) (w : World d.State) → run_at d bytes from k ≡ Some w → looks bytes w.cpu ≡ true → LooksSoon d bytes w
    all_soon k w run look = by (each k w run)
      where
        by : On w → LooksSoon d bytes w
        by (inl h) = serves_soon d bytes has w h.serving look
        by (inr (inl h)) =
            let none : looks bytes w.cpu ≡ false = main_blind d bytes has w.cpu h.main in absurd (cc (none, look))
        by (inr (inr h)) = serves_soon d bytes has w h.0 look

-- the same of the run from power-on, whose first steps come before the main program
module _ (d : Board) (bytes : List ℕ) (has : HasKernel bytes) (from : World d.State) (wake : Wakes d bytes has from)
    (first : Comes d TICK bytes from (IsStart d bytes)) where
  from_main : Comes d TICK bytes wake.to (IsStart d bytes)
  from_main = wake.comes first

  -- up to the first start port 1 is as reset leaves it
  pub begins_dark : (k : ℕ) (one next : World d.State) → calm d TICK bytes k from ≡ Some one
      → at_tick d TICK one ≡ false → joint_step d bytes one ≡ Some next → next.cpu.p1 ≡ 255
  begins_dark k one next run off step = by (nat_lt k (waking d bytes has)) refl
    where
      by : (b : Bool) → nat_lt k (waking d bytes has) ≡ b → next.cpu.p1 ≡ 255
      by true e = ((wake.calm_early k one (grind (arith, nat_tests, e)) run).next next step).1
      by false e =
          let j : ℕ = k - 16 in
          let far : 16 ≤ k = grind (arith, nat_tests, e) in
          let sum : 16 + j ≡ k = omega (arith, far) in
          before_first d bytes has wake.to wake.main from_main j one next
          (sym (wake.calm_on j) ∙ ap (λ i. calm d TICK bytes i from) sum ∙ run) off step
          ∙ wake.dark

  module _ (passes : (k : ℕ) (w : World d.State) → run_at d bytes from k ≡ Some w → IsStart d bytes w
      → Passes d bytes w) where
    passes_main : (k : ℕ) (w : World d.State) → run_at d bytes wake.to k ≡ Some w → IsStart d bytes w → Passes d bytes w
    passes_main k w run = passes (16 + k) w (wake.on k ∙ run)

    later : (k : ℕ) (w : World d.State) → run_at d bytes from k ≡ Some w → nat_lt k (waking d bytes has) ≡ false
        → run_at d bytes wake.to (k - 16) ≡ Some w
    later k w run e =
        let far : 16 ≤ k = grind (arith, nat_tests, e) in
        let sum : 16 + (k - 16) ≡ k = omega (arith, far) in
        sym (wake.on (k - 16)) ∙ ap (run_at d bytes from) sum ∙ run

    -- in each state of the run what is executed next is fit
    pub every_fit : (k : ℕ) (w : World d.State) → run_at d bytes from k ≡ Some w → IsFit bytes w.cpu
    every_fit k w run = by (nat_lt k (waking d bytes has)) refl
      where
        by : (b : Bool) → nat_lt k (waking d bytes has) ≡ b → IsFit bytes w.cpu
        by true e = (wake.early k w (grind (arith, nat_tests, e)) run).fit
        by false e = all_fit d bytes has wake.to wake.main from_main passes_main (k - 16) w (later k w run e)

    -- in each step of the run a look at the clock after a row that puts port 2 is late enough
    pub every_late : (k : ℕ) (w next : World d.State) → run_at d bytes from k ≡ Some w
        → joint_step d bytes w ≡ Some next → LooksLate bytes w.cpu next.cpu
    every_late k w next run step = by (nat_lt k (waking d bytes has)) refl
      where
        by : (b : Bool) → nat_lt k (waking d bytes has) ≡ b → LooksLate bytes w.cpu next.cpu
        by true e = ((wake.early k w (grind (arith, nat_tests, e)) run).next next step).0
        by false e = all_late d bytes has wake.to wake.main from_main passes_main (k - 16) w next (later k w run e) step

    -- in each state in which the clock is looked at, the next look comes within 24 cycles, or no byte is being sent
    -- any more
    pub every_soon : (k : ℕ) (w : World d.State) → run_at d bytes from k ≡ Some w → looks bytes w.cpu ≡ true
        → LooksSoon d bytes w
    every_soon k w run look = by (nat_lt k (waking d bytes has)) refl
      where
        by : (b : Bool) → nat_lt k (waking d bytes has) ≡ b → LooksSoon d bytes w
        by true e =
            let none : looks bytes w.cpu ≡ false = (wake.early k w (grind (arith, nat_tests, e)) run).blind in
            absurd (cc (none, look))
        by false e = all_soon d bytes has wake.to wake.main from_main passes_main (k - 16) w (later k w run e) look
