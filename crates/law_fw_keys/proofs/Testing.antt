-- Step 3: a tick of the power-on test.
use Rattle.law_fw_keys.proofs.Patch.{Keeps}
use Rattle.law_fw_logic.proofs.Path.{Fork}
use Rattle.std.proofs.Common.{◌≡◌, ◌<◌, ℕ, ◌+◌, ◌-◌, ◌%◌, List, [], ◌∷◌, All, Bool, true, false, not, ◌==◌}
use Rattle.std.proofs.Common.{if◌then◌else◌, refl, ap, sym, ◌∙◌, arith}
use Rattle.std.proofs.lemmas.Bool.Decides.{nat_tests}
use Rattle.mcs48_core.specs.Cpu.{Cpu}
use Rattle.law_fw_keys.proofs.Blocks.{leaf, bytes_of}
use Rattle.fw_kernel.specs.declared.cells.TheConstants.{R0, R1, AADUE, TEST}
use Rattle.fw_kernel.specs.Places.{HasKernel}
use Rattle.fw_kernel.specs.declared.labels.TheConstants.{SCAN, TESTED, E_CLOCK, E_DATA}
use Rattle.law_fw_keys.proofs.Block.{Ends, Safe}
use Rattle.law_fw_keys.proofs.Patch.{still}
use Rattle.law_fw_keys.specs.State.{Inv, kbd_of}
use Rattle.law_fw_logic.proofs.Block.{begin_at, put}
use Rattle.law_fw_logic.proofs.Kernel.{kernel_in}
use Rattle.law_fw_logic.proofs.Leads.{Leads}
use Rattle.law_fw_logic.proofs.Path.{Go, Until}
use Rattle.law_fw_logic.proofs.Short.{has_rows}
use Rattle.mcs48_ranges.specs.Sizes.{IsByte}
use Rattle.joint_run.specs.Run.{Board}
use Rattle.model_keyboard.specs.Tick.{tested_if}

-- a look without an effect, to the place after it
abbrev passed : ℕ → Cpu → Bool → Cpu → Cpu
passed place m b e = record m { pc = place; t = e.t; pre = e.pre; tf = e.tf; rq = e.rq; last_t1 = e.last_t1 }

module _ (d : Board) (bytes : List ℕ) (hk : HasKernel bytes) (small : All IsByte bytes)
    (low : (p1 p2 c : ℕ) (s : d.State) → (d.pins p1 p2 c s).bus < 256) (held : List Bool)
    (x : ℕ) (m : Cpu) (board : d.State) (f : ℕ → ℕ) (ring : List ℕ) (inv : Inv f) where
  tests_by_last : (b : Bool) → (f TEST == 1) ≡ b → (f TEST == 0) ≡ false → Safe m TESTED f ring
      → Leads d (kernel_in true bytes) x (begin_at d TESTED f ring m board)
      (Ends d x (record m { f1 = false }) board SCAN 36 (Keeps held (tested_if true) f ring))
  tests_by_last false last runs safe =
      let h = bytes_of m TESTED f ring safe in
      let l : f TEST < 256 = h.cell TEST (omega arith) in
      let more : 1 < f TEST = grind (arith, nat_tests, last, runs) in
      let less : (f TEST + 255) % 256 ≡ f TEST - 1 = omega (arith, l, more) in
      let some : not ((f TEST + 255) % 256 == 0) ≡ true =
      (let p : 0 < (f TEST + 255) % 256 = omega (arith, less, more) in grind (arith, nat_tests, p)) in
      leaf d (kernel_in true bytes) (has_rows true bytes hk) small low (Keeps held (tested_if true) f ring)
      (Go true ∷ Fork E_CLOCK (passed E_CLOCK) ∷ Fork E_DATA (passed E_DATA) ∷ Go true
      ∷ Until SCAN ∷ []) TESTED SCAN 36 (put (put (put f R1 TEST) R0 0) TEST ((f TEST + 255) % 256)) ring x m
      (record m { f1 = false }) board f ring safe.0
      (λ a. record {
        kbd = ap (λ n. record (kbd_of held f ring) { test = n }) less ∙ sym (ap (λ b. record (kbd_of held f ring) {
          test = f TEST - 1;
          aa_due = if b then true else not (f AADUE == 0);
        }) last);
        inv = still (refl, refl, refl, refl, refl) inv;
        cells = λ i l u. grind (arith, nat_tests, l, u);
        layers = λ i l u. grind (arith, nat_tests, l, u);
        stack = (refl, refl);
      })
      (ap not runs, (refl, (refl, refl, refl, λ e0. (refl, (refl, refl, refl, λ e1. (some, (refl, refl, refl)))))))
  tests_by_last true last runs safe =
      let one : f TEST ≡ 1 = grind (arith, nat_tests, last) in
      let none : not ((f TEST + 255) % 256 == 0) ≡ false = ap (λ n. not ((n + 255) % 256 == 0)) one in
      leaf d (kernel_in true bytes) (has_rows true bytes hk) small low (Keeps held (tested_if true) f ring)
      (Go true ∷ Fork E_CLOCK (passed E_CLOCK) ∷ Fork E_DATA (passed E_DATA) ∷ Go false
      ∷ Until SCAN ∷ []) TESTED SCAN 36 (put (put (put (put f R0 0) TEST ((f TEST + 255) % 256)) AADUE 1) R1 AADUE) ring x m
      (record m { f1 = false }) board f ring safe.0
      (λ a. record {
        kbd = ap (λ n. record (kbd_of held f ring) { test = n; aa_due = true })
            (let e : (f TEST + 255) % 256 ≡ f TEST - 1 = rw one refl in e) ∙ sym (ap (λ b. record (kbd_of held f ring) {
              test = f TEST - 1;
              aa_due = if b then true else not (f AADUE == 0);
            }) last);
        inv = still (refl, refl, refl, refl, refl) inv;
        cells = λ i l u. grind (arith, nat_tests, l, u);
        layers = λ i l u. grind (arith, nat_tests, l, u);
        stack = (refl, refl);
      })
      (ap not runs, (refl, (refl, refl, refl, λ e0. (refl, (refl, refl, refl, λ e1. (none, (refl, refl, refl)))))))

  -- a tick of the self-test counts it down as in the model, in 36 cycles at most
  pub testing_law : (f TEST == 0) ≡ false → Safe m TESTED f ring
      → Leads d (kernel_in true bytes) x (begin_at d TESTED f ring m board)
      (Ends d x (record m { f1 = false }) board SCAN 36 (Keeps held (tested_if true) f ring))
  testing_law = tests_by_last (f TEST == 1) refl
