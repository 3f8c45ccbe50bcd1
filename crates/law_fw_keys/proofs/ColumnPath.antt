-- A changed column up to its rows and behind them, and the test for another.
use Rattle.law_fw_keys.proofs.Laid.{cell_set, laid, laid_at, laid_low, laid_set}
use Rattle.std.proofs.Common.{◌≡◌, ◌≤◌, ◌<◌, ℕ, suc, zero, ◌+◌, ◌*◌, ◌%◌, List, [], ◌∷◌, All, Bool, true, false}
use Rattle.std.proofs.Common.{not, ◌==◌, bit_and, bit_xor, refl, ap, ◌∙◌, arith}
use Rattle.std.proofs.Common.{slice_index}
use Rattle.std.proofs.lemmas.Bool.Decides.{nat_tests}
use Rattle.mcs48_core.specs.Cpu.{Cpu}
use Rattle.law_fw_keys.proofs.Blocks.{Just, JustA, leaf_a, leaf}
use Rattle.fw_kernel.specs.Tables.{codes_at, make_only_at}
use Rattle.fw_kernel.specs.declared.cells.TheConstants.{R0, R1, R3, R4, R5, R6, R7, COUNT, FN, HELD, CHANGED, LAYER}
use Rattle.fw_kernel.specs.Places.{HasKernel}
use Rattle.fw_kernel.specs.declared.labels.TheConstants.{COLUMN, DONE, FOOT, MORE, ROW, LAYERS}
use Rattle.law_fw_keys.proofs.Block.{Ends, Safe}
use Rattle.law_fw_keys.proofs.Patch.{IsFnCell, Patch, struck}
use Rattle.law_fw_logic.proofs.Block.{begin_at, memory, put}
use Rattle.law_fw_logic.proofs.Kernel.{kernel_in}
use Rattle.law_fw_logic.proofs.Leads.{Leads}
use Rattle.law_fw_logic.proofs.Path.{Acc, Go, Ram, Run, Until}
use Rattle.law_fw_logic.proofs.Short.{has_rows}
use Rattle.mcs48_ranges.specs.Sizes.{IsByte}
use Rattle.joint_run.specs.Run.{Board}
use Rattle.law_fw_keys.proofs.ColumnCells.{Wide, cell_at, first_row, held_place}
use Rattle.law_fw_keys.proofs.ColumnCells.{kept_first, kept_layers, last_column, layers_cell, layers_pointer}
use Rattle.law_fw_keys.proofs.ColumnCells.{left_once, only_pointer, right_once, spread}
use Rattle.law_fw_keys.proofs.ColumnCells.{wide}

-- what a pass begins with
pub record Column (on : Bool) (ch hd : ℕ → ℕ) (c : ℕ) (m : Cpu) (f : ℕ → ℕ) : Type 0 where
  pub pointer : f R0 ≡ CHANGED + c
  pub flag : m.f0 ≡ on
  pub most : f COUNT % 128 ≤ 16
  pub cell : IsFnCell (f FN)
  pub changes : (i : ℕ) → i < 12 → f (CHANGED + i) ≡ ch i
  pub helds : (i : ℕ) → i < 12 → f (HELD + i) ≡ hd i

abbrev pub only : List ℕ → ℕ → ℕ
only bytes c = slice_index bytes (make_only_at + c)

abbrev pub begun : List ℕ → (ℕ → ℕ) → (ℕ → ℕ) → ℕ → (ℕ → ℕ) → (ℕ → ℕ) → ℕ → ℕ
begun bytes ch hd c f layers =
    put (put (put (put (put (put (put (laid f layers) R4 (ch c)) R1 (LAYER + c)) R7 (hd c)) R6 (8 * c)) R5 (layers c)) R0
    (only bytes c)) R3 8

-- after its last row its layers go back
abbrev pub afterwards : (ℕ → ℕ) → ℕ → (ℕ → ℕ) → ℕ → ℕ → ℕ → Patch → Wide
afterwards hd c layers r0 r5 fn p = record {
  r0 = r0;
  r7 = hd c;
  r5 = r5;
  fn = fn;
  p = record p { r1 = LAYER + c };
  bytes = put layers c r5;
}

module _ (d : Board) (bytes : List ℕ) (hk : HasKernel bytes) (small : All IsByte bytes)
    (low : (p1 p2 c : ℕ) (s : d.State) → (d.pins p1 p2 c s).bus < 256) (on : Bool) (ch hd : ℕ → ℕ) where
  -- a column that has changed, up to its first row
  pub begins : (c x : ℕ) (m : Cpu) (board : d.State) (f layers : ℕ → ℕ) (ring : List ℕ) → c < 12 → Column on ch hd c m f
      → Safe m COLUMN (laid f layers) ring → (ch c == 0) ≡ false
      → Leads d (kernel_in true bytes) x (begin_at d COLUMN (laid f layers) ring m board)
      (Ends d x m board ROW 32 (JustA (ch c) (begun bytes ch hd c f layers) ring))
  begins c x m board f layers ring l col safe some =
      let pointer : f R0 ≡ CHANGED + c = col.pointer in
      let l0 : ℕ → ℕ = laid f layers in
      leaf_a d (kernel_in true bytes) (has_rows true bytes hk) small low
      (JustA (ch c) (begun bytes ch hd c f layers) ring)
      (Run 1 ∷ Acc (ch c) ∷ Go true ∷ Run 3 ∷ Acc (HELD + c) ∷ Run 2 ∷ Acc (hd c) ∷ Run 6 ∷ Acc (8 * c) ∷ Until LAYERS ∷ Run 2
      ∷ Acc (LAYER + c) ∷ Run 2 ∷ Acc (layers c) ∷ Run 3 ∷ Acc (193 + c) ∷ Run 1 ∷ Acc (only bytes c)
      ∷ Until ROW ∷ []) COLUMN ROW 32 (ch c) (begun bytes ch hd c f layers) ring x m m board l0 ring
      safe.0
      (refl, refl, refl) (
        cell_at l0 ring (f R0) (CHANGED + c) pointer (omega (arith, l)) ∙ laid_low f layers (CHANGED + c) (omega (arith, l))
            ∙ col.changes c l,
        (
          ap not some,
          (
            ap (λ v. bit_xor v 16) pointer ∙ held_place c l,
            (
              cell_at (put (put l0 R4 (ch c)) R1 (HELD + c)) ring (HELD + c) (HELD + c) refl (omega (arith, l))
                  ∙ kept_first l0 (ch c) (HELD + c) c l ∙ laid_low f layers (HELD + c) (omega (arith, l)) ∙ col.helds c l,
              (
                ap (λ v. bit_and (left_once (left_once (left_once v))) 120) pointer ∙ first_row c l,
                (
                  layers_pointer (f R0) c pointer l,
                  (
                    cell_at (put (put (put (put l0 R4 (ch c)) R1 (LAYER + c)) R7 (hd c)) R6 (8 * c)) ring
                        (LAYER + c) (LAYER + c)
                        refl (omega (arith, l)) ∙ kept_layers l0 (ch c) (LAYER + c) (hd c) (8 * c) c
                        ∙ laid_at f layers c l,
                    (
                      only_pointer (f R0) c pointer l,
                      (
                        (let e : codes_at + (193 + c) ≡ make_only_at + c = omega arith in ap (λ i. slice_index bytes i) e),
                        ((refl, refl, refl), refl),
                      ),
                    ),
                  ),
                ),
              ),
            ),
          ),
        ),
      )

  -- after a column's last row its layers go back, and the next column comes, or the end
  pub ends : (c x : ℕ) (m : Cpu) (board : d.State) (f layers : ℕ → ℕ) (ring last : List ℕ) (p : Patch) (r5 fn : ℕ) →
      c < 12
      → Safe m FOOT (struck (begun bytes ch hd c f layers) p r5 fn) last → p.r6 ≡ 8 * c + 8
      → Leads d (kernel_in true bytes) x (begin_at d FOOT (struck (begun bytes ch hd c f layers) p r5 fn) last m board)
      (Ends d x m board MORE 15 (Just (spread f (afterwards hd c layers (CHANGED + 1 + c) r5 fn p)) last))
  ends c x m board f layers ring last p r5 fn l safe r6 =
      let w0 : ℕ → ℕ = wide f (afterwards hd c layers (only bytes c) r5 fn p) in
      leaf d (kernel_in true bytes) (has_rows true bytes hk) small low
      (Just (spread f (afterwards hd c layers (CHANGED + 1 + c) r5 fn p)) last)
      (Run 5 ∷ Acc (LAYER + c) ∷ Run 3 ∷ Ram (memory (laid w0 (put layers c r5)) last) ∷ Run 2 ∷ Acc (CHANGED + 1 + c)
      ∷ Until MORE ∷ []) FOOT MORE 15 (spread f (afterwards hd c layers (CHANGED + 1 + c) r5 fn p)) last x m m board
      (struck (begun bytes ch hd c f layers) p r5 fn) last safe.0 (λ a. (refl, refl)) (
        ap (λ v. (right_once (right_once (right_once v)) + 79) % 256) r6 ∙ layers_cell c l,
        (
          cell_set (laid w0 layers) last (LAYER + c) (LAYER + c) r5 refl (omega (arith, l)) ∙ laid_set w0 layers last c r5 l,
          (omega (arith, l), (refl, refl, refl)),
        ),
      )

  abbrev pub goal_place : ℕ → ℕ
  goal_place zero = DONE
  goal_place (suc n) = COLUMN

  -- is there another one?
  pub asks : (n c x : ℕ) (m : Cpu) (board : d.State) (f : ℕ → ℕ) (ring : List ℕ) → c + suc n ≡ 12 → f R0 ≡ CHANGED + 1 + c
      → Safe m MORE f ring
      → Leads d (kernel_in true bytes) x (begin_at d MORE f ring m board)
      (Ends d x m board (goal_place n) 5 (Just f ring))
  asks zero c x m board f ring sum pointer safe =
      let here : not (c == 11) ≡ false = (let e : c ≡ 11 = omega (arith, sum) in rw e refl) in
      leaf d (kernel_in true bytes) (has_rows true bytes hk) small low (Just f ring) (Go false ∷ []) MORE DONE 5
      f ring x m m board f ring safe.0 (λ a. (refl, refl))
      (ap (λ v. not (bit_xor v 60 == 0)) pointer ∙ last_column c (omega (arith, sum)) ∙ here, (refl, refl, refl))
  asks (suc n) c x m board f ring sum pointer safe =
      let other : not (c == 11) ≡ true = (let e : c < 11 = omega (arith, sum) in grind (arith, nat_tests, e)) in
      leaf d (kernel_in true bytes) (has_rows true bytes hk) small low (Just f ring) (Go true ∷ []) MORE COLUMN
      5 f ring x m m board f ring safe.0 (λ a. (refl, refl))
      (ap (λ v. not (bit_xor v 60 == 0)) pointer ∙ last_column c (omega (arith, sum)) ∙ other, (refl, refl, refl))
