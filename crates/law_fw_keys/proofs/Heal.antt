-- Block heal: whatever the cells are, STARTED is 0 or 1 then, and FN follows the Fn key as it was held before this tick's
-- edges.
use Rattle.std.proofs.Common.{◌≡◌, ◌≤◌, ◌<◌, ℕ, suc, ◌+◌, ◌-◌, ◌*◌, ◌/◌, ◌%◌, ◌^◌, List, [], ◌∷◌, All, Bool, true, false}
use Rattle.std.proofs.Common.{not, ◌==◌, nat_le, nat_lt, if◌then◌else◌, bit_and, bit_xor, refl, ap, ◌∙◌, arith}
use Rattle.std.proofs.Common.{slice_index}
use Rattle.std.proofs.lemmas.Bool.Decides.{nat_tests}
use Rattle.mcs48_core.specs.Cpu.{Cpu}
use Rattle.mcs48_ranges.specs.Sizes.{IsByte}
use Rattle.bits.specs.Bits.{bit}
use Rattle.bits.proofs.Every.{by_below}
use Rattle.joint_run.specs.Run.{Board}
use Rattle.fw_kernel.specs.declared.cells.TheConstants.{R0, R1, R2, R3, STARTED, FN, HELD, CHANGED, R4}
use Rattle.fw_kernel.specs.Places.{HasKernel}
use Rattle.fw_kernel.specs.declared.labels.TheConstants.{HEAL, RESET}
use Rattle.fw_kernel.specs.Tables.{fn_place_at}
use Rattle.law_fw_logic.proofs.Block.{begin_at, memory, put}
use Rattle.law_fw_logic.proofs.Kernel.{kernel_in}
use Rattle.law_fw_logic.proofs.Leads.{Leads}
use Rattle.law_fw_logic.proofs.Path.{Acc, Go, Run, Until}
use Rattle.law_fw_logic.proofs.Short.{has_rows}
use Rattle.law_fw_keys.proofs.Begun.{xor_small}
use Rattle.law_fw_keys.proofs.Block.{Ends, Safe}
use Rattle.law_fw_keys.proofs.Blocks.{bytes_of, leaf}
use Rattle.law_fw_keys.proofs.ColumnCells.{cell_at, left_once}
use Rattle.law_fw_keys.proofs.EdgeTests.{bit_test, row_bit}
use Rattle.law_fw_keys.proofs.Fold.{fn_cell}
use Rattle.law_fw_keys.specs.State.{down_at}

-- the keys that were held before this tick's edges, by the cells of what is held and of what has changed
abbrev pub before_edges : (ℕ → ℕ) → ℕ → ℕ
before_edges f c = bit_xor (f (HELD + c)) (f (CHANGED + c))

-- whether the Fn key was, by its place in the image
abbrev pub was_held : List ℕ → (ℕ → ℕ) → Bool
was_held bytes f =
    if nat_lt (slice_index bytes fn_place_at) 96 then down_at (before_edges f) (slice_index bytes fn_place_at) else false

-- what the block leaves
pub record Healed (bytes : List ℕ) (f : ℕ → ℕ) (ring : List ℕ) (acc : ℕ) (g : ℕ → ℕ) (r : List ℕ) : Type 0 where
  pub kept : (i : ℕ) → R4 ≤ i → (i == STARTED) ≡ false → (i == FN) ≡ false → g i ≡ f i
  pub started : g STARTED ≡ bit_and (f STARTED) 1
  pub fn : g FN ≡ fn_cell (was_held bytes f)
  pub stack : (g 8 ≡ f 8) × (g 9 ≡ f 9)
  pub same_ring : r ≡ ring

-- a place's column, its row, and the rows left
column_is : (p : ℕ) → p < 96 → bit_and (left_once (p % 16 * 16 + p / 16)) 15 ≡ p / 8
column_is = by_below 96 (λ p. bit_and (left_once (p % 16 * 16 + p / 16)) 15) (λ p. p / 8) refl

rows_left : (p : ℕ) → p < 96 → (bit_and (255 - p) 7 + 1) % 256 ≡ suc (7 - p % 8)
rows_left = by_below 96 (λ p. (bit_and (255 - p) 7 + 1) % 256) (λ p. suc (7 - p % 8)) refl

row_is : (p : ℕ) → 7 - (7 - p % 8) ≡ p % 8
row_is p = omega arith

module _ (d : Board) (bytes : List ℕ) (hk : HasKernel bytes) (small : All IsByte bytes)
    (low : (p1 p2 c : ℕ) (s : d.State) → (d.pins p1 p2 c s).bus < 256)
    (x : ℕ) (m : Cpu) (board : d.State) (f : ℕ → ℕ) (ring : List ℕ) (safe : Safe m HEAL f ring) where
  abbrev place : ℕ
  place = slice_index bytes fn_place_at

  abbrev c : ℕ
  c = place / 8

  abbrev k : ℕ
  k = 7 - place % 8

  abbrev Heals : Type 0
  Heals = Leads d (kernel_in true bytes) x (begin_at d HEAL f ring m board) (Ends d x m board RESET 50 (Healed bytes f ring))

  -- the cells on the way, and at its end
  abbrev on_way : ℕ → ℕ → ℕ
  on_way r1 = put (put (put f R1 r1) STARTED (bit_and (f STARTED) 1)) R2 place

  abbrev without : ℕ → ℕ
  without = put (on_way FN) FN 0

  abbrev within : ℕ → ℕ → ℕ
  within v = put (put (put (on_way FN) R0 (HELD + c)) R3 (before_edges f c)) FN v

  -- there is no Fn key
  none : nat_lt place 96 ≡ false → Heals
  none far =
      let late : nat_le 256 (place + 160) ≡ true = grind (arith, nat_tests, far) in
      leaf d (kernel_in true bytes) (has_rows true bytes hk) small low (Healed bytes f ring)
      (Go true ∷ Until RESET ∷ []) HEAL RESET 50 without ring x m m board f ring safe.0
      (λ a. record {
        kept = λ i l u v. rw (v, u) (grind (arith, nat_tests, l));
        started = refl;
        fn = rw far refl;
        stack = (refl, refl);
        same_ring = refl;
      })
      (late, (refl, refl, refl))

  -- there is one
  module _ (near : nat_lt place 96 ≡ true) where
    place_small : place < 96
    place_small = grind (arith, nat_tests, near)

    column_small : c < 12
    column_small = let l : place < 96 = place_small in omega (arith, l)

    kept_on : (r1 r0 i : ℕ) → HELD ≤ i → i < CHANGED + 12 → put (on_way r1) R0 r0 i ≡ f i
    kept_on r1 r0 i l u = grind (arith, nat_tests, l, u)

    byte : before_edges f c < 256
    byte =
        let h = bytes_of m HEAL f ring safe in
        let l : c < 12 = column_small in
        xor_small (f (HELD + c)) (f (CHANGED + c)) (h.cell (HELD + c) (omega (arith, l)))
        (h.cell (CHANGED + c) (omega (arith, l)))

    bit_read : slice_index bytes ((1024 + suc k) % 2048) ≡ 2 ^ (7 - k)
    bit_read = row_bit bytes hk k (omega arith)

    by : (b : Bool) → down_at (before_edges f) place ≡ b → Heals
    by b is =
        let l : c < 12 = column_small in
        let late : nat_le 256 (place + 160) ≡ false = (let u : place < 96 = place_small in grind (arith, nat_tests, u)) in
        let mask : bit (7 - k) (before_edges f c) ≡ b =
        ap (λ n. bit n (before_edges f c)) (row_is place) ∙ is in
        let asked : (bit_and (2 ^ (7 - k)) (before_edges f c) == 0) ≡ not b =
        bit_test (7 - k) (before_edges f c) (omega arith) byte ∙ ap not mask in
        let first : slice_index (memory (put (on_way (CHANGED + c)) R0 (HELD + c)) ring) ((HELD + c) % 128)
        ≡ f (HELD + c) =
        cell_at (put (on_way (CHANGED + c)) R0 (HELD + c)) ring (HELD + c) (HELD + c) refl (omega (arith, l))
        ∙ kept_on (CHANGED + c) (HELD + c) (HELD + c) (omega arith) (omega (arith, l)) in
        let second : slice_index (memory (put (on_way (CHANGED + c)) R0 (HELD + c)) ring) ((CHANGED + c) % 128)
        ≡ f (CHANGED + c) =
        cell_at (put (on_way (CHANGED + c)) R0 (HELD + c)) ring (CHANGED + c) (CHANGED + c) refl (omega (arith, l))
        ∙ kept_on (CHANGED + c) (HELD + c) (CHANGED + c) (omega arith) (omega (arith, l)) in
        ends b asked first second is l late
      where
        ends : (b : Bool) → (bit_and (2 ^ (7 - k)) (before_edges f c) == 0) ≡ not b
            → slice_index (memory (put (on_way (CHANGED + c)) R0 (HELD + c)) ring) ((HELD + c) % 128) ≡ f (HELD + c)
            → slice_index (memory (put (on_way (CHANGED + c)) R0 (HELD + c)) ring) ((CHANGED + c) % 128) ≡ f (CHANGED + c)
            → down_at (before_edges f) place ≡ b → c < 12 → nat_le 256 (place + 160) ≡ false → Heals
        ends false asked first second is l late =
            let zero : bit_and (2 ^ (7 - k)) (before_edges f c) ≡ 0 = grind (arith, nat_tests, asked) in
            leaf d (kernel_in true bytes) (has_rows true bytes hk) small low (Healed bytes f ring)
            (Go false ∷ Run 4 ∷ Acc c ∷ Run 1 ∷ Acc (HELD + c) ∷ Run 2 ∷ Acc (CHANGED + c) ∷ Run 2 ∷ Acc (f (HELD + c)) ∷ Run 1
            ∷ Acc (before_edges f c) ∷ Run 5 ∷ Acc (suc k) ∷ Run 1 ∷ Acc (2 ^ (7 - k)) ∷ Run 1 ∷ Acc 0 ∷ Go true
            ∷ Until RESET ∷ []) HEAL RESET 50 (within 0) ring x m m board f ring safe.0
            (λ a. record {
              kept = λ i l u v. rw (v, u) (grind (arith, nat_tests, l));
              started = refl;
              fn = rw (near, is) refl;
              stack = (refl, refl);
              same_ring = refl;
            }) (
              late,
              (
                column_is place place_small,
                (
                  (let e : (c + 32) % 256 ≡ HELD + c = omega (arith, l) in e),
                  (
                    (let e : (HELD + c + 16) % 256 ≡ CHANGED + c = omega (arith, l) in e),
                    (
                      first,
                      (
                        ap (λ v. bit_xor (f (HELD + c)) v) second,
                        (rows_left place place_small, (bit_read, (zero, (refl, (refl, refl, refl))))),
                      ),
                    ),
                  ),
                ),
              ),
            )
        ends true asked first second is l late =
            leaf d (kernel_in true bytes) (has_rows true bytes hk) small low (Healed bytes f ring)
            (Go false ∷ Run 4 ∷ Acc c ∷ Run 1 ∷ Acc (HELD + c) ∷ Run 2 ∷ Acc (CHANGED + c) ∷ Run 2 ∷ Acc (f (HELD + c)) ∷ Run 1
            ∷ Acc (before_edges f c) ∷ Run 5 ∷ Acc (suc k) ∷ Run 1 ∷ Acc (2 ^ (7 - k)) ∷ Go false
            ∷ Until RESET ∷ []) HEAL RESET 50 (within 255) ring x m m board f ring safe.0
            (λ a. record {
              kept = λ i l u v. rw (v, u) (grind (arith, nat_tests, l));
              started = refl;
              fn = rw (near, is) refl;
              stack = (refl, refl);
              same_ring = refl;
            }) (
              late,
              (
                column_is place place_small,
                (
                  (let e : (c + 32) % 256 ≡ HELD + c = omega (arith, l) in e),
                  (
                    (let e : (HELD + c + 16) % 256 ≡ CHANGED + c = omega (arith, l) in e),
                    (
                      first,
                      (
                        ap (λ v. bit_xor (f (HELD + c)) v) second,
                        (rows_left place place_small, (bit_read, (asked, (refl, refl, refl)))),
                      ),
                    ),
                  ),
                ),
              ),
            )

    some : Heals
    some = by (down_at (before_edges f) place) refl

  heals_by : (b : Bool) → nat_lt place 96 ≡ b → Heals
  heals_by false e = none e
  heals_by true e = some e

  -- whatever the cells are
  pub heals : Heals
  heals = heals_by (nat_lt place 96) refl
