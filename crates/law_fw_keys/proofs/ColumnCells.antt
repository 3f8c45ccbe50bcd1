-- The cells of a column: what it changes, where its bytes are, and its time.
use Rattle.std.proofs.Common.{◌≡◌, ◌≤◌, ◌<◌, ℕ, suc, zero, ◌+◌, ◌*◌, ◌/◌, ◌%◌, List, Bool, false, not, ◌==◌}
use Rattle.std.proofs.Common.{if◌then◌else◌, bit_and, bit_xor, refl, ap, sym, ◌∙◌, arith, slice_index}
use Rattle.std.proofs.lemmas.Bool.Decides.{nat_tests}
use Rattle.bits.specs.Bits.{bit}
use Rattle.bits.proofs.Every.{by_below, tests_by}
use Rattle.mcs48_core.specs.Status.{digit}
use Rattle.law_fw_logic.proofs.Block.{memory, put}
use Rattle.law_fw_keys.proofs.Blocks.{cell-get}
use Rattle.law_fw_keys.proofs.Fold.{Decks}
use Rattle.law_fw_keys.proofs.Laid.{laid, laid_low, laid_high}
use Rattle.law_fw_keys.proofs.Patch.{Patch, self, struck}
use Rattle.law_fw_keys.proofs.Rows.{marks, rows_time}
use Rattle.law_fw_keys.specs.Edges.{image_keys}
use Rattle.law_fw_keys.specs.State.{kbd_of}
use Rattle.fw_kernel.specs.Tables.{make_only_at}
use Rattle.fw_kernel.specs.declared.cells.TheConstants.{R0, R1, R4, R5, R6, R7, FN, HELD, CHANGED, LAYER, PENDING}

-- what the columns change: with R0, R7, and the layers
pub record Wide : Type 0 where
  pub r0 : ℕ
  pub r7 : ℕ
  pub r5 : ℕ
  pub fn : ℕ
  pub p : Patch
  pub bytes : ℕ → ℕ

abbrev pub wide : (ℕ → ℕ) → Wide → ℕ → ℕ
wide f w = put (put (struck f w.p w.r5 w.fn) R0 w.r0) R7 w.r7

abbrev pub spread : (ℕ → ℕ) → Wide → ℕ → ℕ
spread f w = laid (wide f w) w.bytes

-- the columns' step keeps the cells of the held keys and of their changes
pub kept_wide : (f : ℕ → ℕ) (w : Wide) (i : ℕ) → HELD ≤ i → i < CHANGED + 12 → wide f w i ≡ f i
kept_wide f w i l u = grind (arith, nat_tests, l, u)

kept_above : (f : ℕ → ℕ) (w : Wide) (i : ℕ) → LAYER + 12 ≤ i → wide f w i ≡ f i
kept_above f w i l = grind (arith, nat_tests, l)

-- the columns' step, with the layers in their cells, keeps the cells of the held keys and of their changes
pub kept_cells : (f : ℕ → ℕ) (w : Wide) (i : ℕ) → HELD ≤ i → i < CHANGED + 12 → spread f w i ≡ f i
kept_cells f w i l u = laid_low (wide f w) w.bytes i (omega (arith, u)) ∙ kept_wide f w i l u

-- the columns' step keeps the bytes that say which keys changed
pub kept_changes : (f : ℕ → ℕ) (w : Wide) (i : ℕ) → i < 12 → spread f w (CHANGED + i) ≡ f (CHANGED + i)
kept_changes f w i l = kept_cells f w (CHANGED + i) (omega arith) (omega (arith, l))

-- the columns' step keeps the bytes that say which keys are held
pub kept_helds : (f : ℕ → ℕ) (w : Wide) (i : ℕ) → i < 12 → spread f w (HELD + i) ≡ f (HELD + i)
kept_helds f w i l = kept_cells f w (HELD + i) (omega arith) (omega (arith, l))

-- and those above the layers
pub kept_pendings : (f : ℕ → ℕ) (w : Wide) (i : ℕ) → i < 12 → spread f w (PENDING + i) ≡ f (PENDING + i)
kept_pendings f w i l = laid_high (wide f w) w.bytes (PENDING + i) (omega arith) ∙ kept_above f w (PENDING + i) (omega arith)

-- the cell that a register points to
pub cell_at : (f : ℕ → ℕ) (ring : List ℕ) (v i : ℕ) → v ≡ i → i < 112 → slice_index (memory f ring) (v % 128) ≡ f i
cell_at f ring v i e l = let m : v % 128 ≡ i = omega (arith, e, l) in let z : 0 + i ≡ i = omega arith in
    ap (λ k. slice_index (memory f ring) k) m ∙ cell-get f 0 112 ring i l ∙ ap f z

-- the cell of a column's held keys is 10 (hexadecimal) away from that of its changes: one bit differs
pub held_place : (c : ℕ) → c < 12 → bit_xor (CHANGED + c) 16 ≡ HELD + c
held_place = by_below 12 (λ c. bit_xor (CHANGED + c) 16) (λ c. HELD + c) refl

abbrev pub left_once : ℕ → ℕ
left_once a = (2 * a + digit (bit 7 a)) % 256

-- the pointer to a column's changes, turned left three times, gives the column's first place, 8 c
pub first_row : (c : ℕ) → c < 12 → bit_and (left_once (left_once (left_once (CHANGED + c)))) 120 ≡ 8 * c
first_row = by_below 12 (λ c. bit_and (left_once (left_once (left_once (CHANGED + c)))) 120) (λ c. 8 * c) refl

-- the pointer is at the end of the changes just after column 11
pub last_column : (c : ℕ) → c < 12 → not (bit_xor (CHANGED + 1 + c) 60 == 0) ≡ not (c == 11)
last_column = tests_by 12 (λ c. not (bit_xor (CHANGED + 1 + c) 60 == 0)) (λ c. not (c == 11)) refl

-- the time of a column, and of n columns
abbrev pub rows_part : ℕ → ℕ
rows_part v = if v == 0 then 0 else 93 + 62 * marks 0 8 v

abbrev pub columns_time : (ℕ → ℕ) → ℕ → ℕ → ℕ
columns_time ch c zero = 0
columns_time ch c (suc n) = 4 + rows_part (ch c) + 5 + columns_time ch (suc c) n

-- the two registers that a column sets first don't change its held keys
pub kept_first : (f : ℕ → ℕ) (u v c : ℕ) → c < 12 → put (put f R4 u) R1 v (HELD + c) ≡ f (HELD + c)
kept_first f u v c l = grind (arith, nat_tests, l)

-- the times of a column and of those after it may be added in either order
pub sums : (a b : ℕ) → 4 + a + (5 + b) ≤ 4 + a + 5 + b
sums a b = omega arith

-- a column with changes takes the time of its 93 cycles and 62 more for each edge
pub by_marks : (v k : ℕ) → (v == 0) ≡ false → 32 + (2 + 48 + 62 * k + 15) ≤ 4 + (if v == 0 then 0 else 93 + 62 * k)
by_marks v k e = rw e (omega arith)

-- the pointer to a column's changes and 20 (hexadecimal) more is that to its layers
pub layers_pointer : (v c : ℕ) → v ≡ CHANGED + c → c < 12 → (v + 32) % 256 ≡ LAYER + c
layers_pointer v c e l = omega (arith, e, l)

-- the pointer to a column's changes and 91 (hexadecimal) more is the place of its keys that only make
pub only_pointer : (v c : ℕ) → v ≡ CHANGED + c → c < 12 → (v + 145) % 256 ≡ 193 + c
only_pointer v c e l = omega (arith, e, l)

-- the registers that a column sets don't change its layers
pub kept_layers : (f : ℕ → ℕ) (u v w z c : ℕ) → put (put (put (put f R4 u) R1 v) R7 w) R6 z (LAYER + c) ≡ f (LAYER + c)
kept_layers f u v w z c = grind (arith, nat_tests)

abbrev pub right_once : ℕ → ℕ
right_once a = 128 * digit (bit 0 a) + a / 2

-- the layers' cell of a column, by the place after its last row
pub layers_cell : (c : ℕ) → c < 12 → (right_once (right_once (right_once (8 * c + 8))) + 79) % 256 ≡ LAYER + c
layers_cell = by_below 12 (λ c. (right_once (right_once (right_once (8 * c + 8))) + 79) % 256) (λ c. LAYER + c) refl

-- the make-only keys of a column
pub only_at : (bytes : List ℕ) (c r : ℕ) → r < 8
    → bit r (slice_index bytes (make_only_at + c)) ≡ (image_keys bytes).make_only (8 * c + r)
only_at bytes c r l =
    let a : (8 * c + r) % 8 ≡ r = omega (arith, l) in
    let b : (8 * c + r) / 8 ≡ c = omega (arith, l) in
    sym (ap (λ n. bit n (slice_index bytes (make_only_at + (8 * c + r) / 8))) a
    ∙ ap (λ n. bit r (slice_index bytes (make_only_at + n))) b)

-- the time of the rows of a column with changes, with what is around them, is within the column's
pub column_sum : (v : ℕ) → (v == 0) ≡ false → 32 + (rows_time 0 8 v + 15) ≤ 4 + rows_part v
column_sum v e = by_marks v (marks 0 8 v) e

abbrev pub decks_of : List Bool → (ℕ → ℕ) → List ℕ → (ℕ → ℕ) → Decks
decks_of held f ring layers = record { keyboard = kbd_of held f ring; fn = not (f FN == 0); bytes = layers }

-- nothing changed
abbrev pub unmoved : (ℕ → ℕ) → (ℕ → ℕ) → Wide
unmoved f layers = record { r0 = f R0; r7 = f R7; r5 = f R5; fn = f FN; p = self f; bytes = layers }
