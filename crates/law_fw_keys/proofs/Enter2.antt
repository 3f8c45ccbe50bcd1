-- The two bytes of a break; the byte of a key that repeats.
use Rattle.std.proofs.Common.{◌≡◌, ◌≤◌, ◌<◌, ℕ, suc, ◌+◌, ◌%◌, List, [], ◌∷◌, All, Bool, true, false, nat_le}
use Rattle.std.proofs.Common.{bit_or, refl, ap, sym, ◌∙◌, arith, slice_set}
use Rattle.mcs48_core.specs.Cpu.{Cpu}
use Rattle.law_fw_keys.proofs.Blocks.{leaf, bytes_of}
use Rattle.law_fw_keys.proofs.Enter.{Entered, in_ring, next_place, over_one, over_two, entered_over, entered_one}
use Rattle.law_fw_keys.proofs.Enter.{entered_two, not_over}
use Rattle.fw_kernel.specs.declared.cells.TheConstants.{R1, R2, COUNT, HEAD}
use Rattle.fw_kernel.specs.Places.{HasKernel}
use Rattle.fw_kernel.specs.declared.labels.TheConstants.{AGAIN, SETTLE, ENTER2, ENTERED, REST}
use Rattle.law_fw_keys.proofs.Block.{Ends, Safe}
use Rattle.law_fw_keys.proofs.Ring.{ring-set}
use Rattle.law_fw_logic.proofs.Block.{begin_at, memory, put}
use Rattle.law_fw_logic.proofs.Kernel.{kernel_in}
use Rattle.law_fw_logic.proofs.Leads.{Leads}
use Rattle.law_fw_logic.proofs.Path.{Go, Ram, Run, Until}
use Rattle.law_fw_logic.proofs.Short.{has_rows}
use Rattle.mcs48_ranges.specs.Sizes.{IsByte}
use Rattle.joint_run.specs.Run.{Board}

module _ (d : Board) (bytes : List ℕ) (hk : HasKernel bytes) (small : All IsByte bytes)
    (low : (p1 p2 c : ℕ) (s : d.State) → (d.pins p1 p2 c s).bus < 256) (held : List Bool)
    (x : ℕ) (m : Cpu) (board : d.State) (f : ℕ → ℕ) (ring : List ℕ) where
  -- two bytes at ENTER2, on to ENTERED
  enters_two_by : (over : Bool) → nat_le 256 (f COUNT + 241) ≡ over → Safe m ENTER2 f ring → f COUNT % 128 ≤ 16
      → Leads d (kernel_in true bytes) x (begin_at d ENTER2 f ring m board)
      (Ends d x m board ENTERED 23 (λ a. Entered (240 ∷ f R2 ∷ []) f ring))
  enters_two_by true is safe most =
      let h = bytes_of m ENTER2 f ring safe in
      leaf d (kernel_in true bytes) (has_rows true bytes hk) small low (λ a. Entered (240 ∷ f R2 ∷ []) f ring)
      (Go true ∷ Until ENTERED ∷ []) ENTER2 ENTERED 23 (put (put f COUNT (bit_or (f COUNT) 128)) R1 COUNT) ring x m
      m board f ring safe.0
      (λ a. entered_over (240 ∷ f R2 ∷ []) f ring COUNT (h.cell COUNT (omega arith)) most
      (sym (over_two (f COUNT) (h.cell COUNT (omega arith))) ∙ is))
      (is, (refl, refl, refl))
  enters_two_by false is safe most =
      let h = bytes_of m ENTER2 f ring safe in
      let below : f COUNT < 15 = (let l = not_over (f COUNT) 241 is in omega (arith, l)) in
      let z : ℕ = (((f COUNT + 241) % 256 + 255) % 256 + f HEAD) % 256 in
      let p : ℕ = bit_or ((bit_or z 112 + 1) % 256) 112 in
      let n : ℕ = ((f COUNT + 1) % 256 + 1) % 256 in
      let j : z % 16 ≡ (f HEAD + f COUNT) % 16 = omega arith in
      let j2 : (z + 1) % 16 ≡ (f HEAD + suc (f COUNT)) % 16 = omega arith in
      let half : List ℕ = slice_set ring ((f HEAD + f COUNT) % 16) 240 in
      let whole : List ℕ = slice_set half ((f HEAD + suc (f COUNT)) % 16) (f R2) in
      let g1 : ℕ → ℕ = put (put f COUNT n) R1 (bit_or z 112) in
      let g2 : ℕ → ℕ = put (put f COUNT n) R1 p in
      leaf d (kernel_in true bytes) (has_rows true bytes hk) small low (λ a. Entered (240 ∷ f R2 ∷ []) f ring)
      (Go false ∷ Run 8 ∷ Ram (memory g1 half) ∷ Until ENTERED ∷ Ram (memory g2 whole) ∷ []) ENTER2 ENTERED 23 g2 whole x m m
      board f ring safe.0
      (λ a. entered_two (f R2) f ring p h.size below) (
        is,
        (
          in_ring g1 ring z (f HEAD + f COUNT) 240 (omega arith) j,
          (
            ap (λ p. slice_set (memory g2 half) p (f R2))
                (next_place z (omega arith) ∙ ap (λ k. (112 + k) % 128) j2)
                ∙ ring-set g2 half ((f HEAD + suc (f COUNT)) % 16) (f R2) (omega arith),
            (refl, refl, refl),
          ),
        ),
      )

  -- the two bytes of a break enter the queue as in the model, in 23 cycles at most
  pub enters_two : Safe m ENTER2 f ring → f COUNT % 128 ≤ 16
      → Leads d (kernel_in true bytes) x (begin_at d ENTER2 f ring m board)
      (Ends d x m board ENTERED 23 (λ a. Entered (240 ∷ f R2 ∷ []) f ring))
  enters_two = enters_two_by (nat_le 256 (f COUNT + 241)) refl

  -- the byte of a key that repeats, at AGAIN, on to SETTLE
  again_by : (over : Bool) → nat_le 256 (f COUNT + 240) ≡ over → Safe m AGAIN f ring → f COUNT % 128 ≤ 16
      → Leads d (kernel_in true bytes) x (begin_at d AGAIN f ring m board)
      (Ends d x m board SETTLE 17 (λ a. Entered (f R2 ∷ []) f ring))
  again_by true is safe most =
      let h = bytes_of m AGAIN f ring safe in
      leaf d (kernel_in true bytes) (has_rows true bytes hk) small low (λ a. Entered (f R2 ∷ []) f ring)
      (Go true ∷ Until SETTLE ∷ []) AGAIN SETTLE 17 (put (put f COUNT (bit_or (f COUNT) 128)) R1 COUNT) ring x m m
      board f ring safe.0
      (λ a. entered_over (f R2 ∷ []) f ring COUNT (h.cell COUNT (omega arith)) most
      (sym (over_one (f COUNT) (h.cell COUNT (omega arith))) ∙ is))
      (is, (refl, refl, refl))
  again_by false is safe most =
      let h = bytes_of m AGAIN f ring safe in
      let below : f COUNT < 16 = (let l = not_over (f COUNT) 240 is in omega (arith, l)) in
      let z : ℕ = ((f COUNT + 240) % 256 + f HEAD) % 256 in
      let j : z % 16 ≡ (f HEAD + f COUNT) % 16 = omega arith in
      let g : ℕ → ℕ = put (put f COUNT ((f COUNT + 1) % 256)) R1 (bit_or z 112) in
      leaf d (kernel_in true bytes) (has_rows true bytes hk) small low (λ a. Entered (f R2 ∷ []) f ring)
      (Go false ∷ Until REST ∷ Ram (memory g (slice_set ring ((f HEAD + f COUNT) % 16) (f R2)))
      ∷ Until SETTLE ∷ []) AGAIN SETTLE 17 g (slice_set ring ((f HEAD + f COUNT) % 16) (f R2)) x m m board f ring safe.0
      (λ a. entered_one (f R2) f ring (bit_or z 112) h.size below)
      (is, (in_ring g ring z (f HEAD + f COUNT) (f R2) (omega arith) j, (refl, refl, refl)))

  -- the code of the key that repeats enters the queue as in the model, in 17 cycles at most
  pub again : Safe m AGAIN f ring → f COUNT % 128 ≤ 16 → Leads d (kernel_in true bytes) x (begin_at d AGAIN f ring m board)
      (Ends d x m board SETTLE 17 (λ a. Entered (f R2 ∷ []) f ring))
  again = again_by (nat_le 256 (f COUNT + 240)) refl
