-- Step 5 of a tick, and its time by the numbers of changed columns and of edges.
use Rattle.std.proofs.Common.{◌≡◌, ◌≤◌, ◌<◌, ℕ, suc, zero, ◌+◌, ◌*◌, ◌%◌, List, [], ◌∷◌, All, Bool, true, false}
use Rattle.std.proofs.Common.{◌==◌, if◌then◌else◌, refl, ap, sym, ◌∙◌, arith}
use Rattle.std.proofs.lemmas.Bool.Decides.{nat_tests}
use Rattle.mcs48_core.specs.Cpu.{Cpu}
use Rattle.law_fw_keys.proofs.Blocks.{Just, leaf, seq_just, recast, relax}
use Rattle.law_fw_keys.proofs.Rows.{marks}
use Rattle.law_fw_keys.proofs.Columns.{AfterColumns, columns_law}
use Rattle.law_fw_keys.proofs.ColumnCells.{spread, rows_part, columns_time}
use Rattle.law_fw_keys.proofs.Laid.{laid}
use Rattle.law_fw_keys.proofs.Patch.{IsFnCell}
use Rattle.law_fw_keys.specs.Edges.{IsSilentAlike}
use Rattle.fw_kernel.specs.declared.cells.TheConstants.{R0, COUNT, FN, HELD, CHANGED, LAYER}
use Rattle.fw_kernel.specs.Places.{HasKernel}
use Rattle.fw_kernel.specs.declared.labels.TheConstants.{COLUMN, DONE, EDGES}
use Rattle.law_fw_keys.proofs.Block.{Ends, Safe}
use Rattle.law_fw_logic.proofs.Block.{begin_at, memory, put}
use Rattle.law_fw_logic.proofs.Kernel.{kernel_in}
use Rattle.law_fw_logic.proofs.Leads.{Leads}
use Rattle.law_fw_logic.proofs.Path.{Until}
use Rattle.law_fw_logic.proofs.Short.{has_rows}
use Rattle.mcs48_ranges.specs.Sizes.{IsByte}
use Rattle.joint_run.specs.Run.{Board}

other_cell : (f : ℕ → ℕ) (v j i : ℕ) → HELD ≤ j → j < CHANGED + 12 → i ≡ j → put f R0 v j ≡ f i
other_cell f v j i l u e = let n : j ≡ i = sym e in let b : (j == R0) ≡ false = grind (arith, nat_tests, l) in
    rw (b, e) refl

-- how many columns changed, and how many edges there are
abbrev pub changed_columns : (ℕ → ℕ) → ℕ → ℕ → ℕ
changed_columns ch c zero = 0
changed_columns ch c (suc n) = (if ch c == 0 then 0 else 1) + changed_columns ch (suc c) n

abbrev pub all_edges : (ℕ → ℕ) → ℕ → ℕ → ℕ
all_edges ch c zero = 0
all_edges ch c (suc n) = marks 0 8 (ch c) + all_edges ch (suc c) n

part_most : (v k : ℕ) (b : Bool) → (v == 0) ≡ b
    → (if v == 0 then 0 else 93 + 62 * k) ≤ 93 * (if v == 0 then 0 else 1) + 62 * k
part_most v k true e = rw e (omega arith)
part_most v k false e = rw e (omega arith)

sum_most : (a one k rest n m e : ℕ) → a ≤ 93 * one + 62 * k → rest ≤ 9 * n + 93 * m + 62 * e
    → 4 + a + 5 + rest ≤ 9 * suc n + 93 * (one + m) + 62 * (k + e)
sum_most a one k rest n m e h g = omega (arith, h, g)

-- the time of the columns is at most 9 cycles each, 93 for each that changed and 62 for each edge
pub time_most : (ch : ℕ → ℕ) (c n : ℕ) → columns_time ch c n ≤ 9 * n + 93 * changed_columns ch c n + 62 * all_edges ch c
    n
time_most ch c zero = omega arith
time_most ch c (suc n) = sum_most (rows_part (ch c)) (if ch c == 0 then 0 else 1) (marks 0 8 (ch c))
    (columns_time ch (suc c) n) n (changed_columns ch (suc c) n) (all_edges ch (suc c) n)
    (part_most (ch c) (marks 0 8 (ch c)) (ch c == 0) refl) (time_most ch (suc c) n)

plus_two : (a b : ℕ) → a ≤ b → 2 + a ≤ 2 + b
plus_two a b l = omega (arith, l)

module _ (d : Board) (bytes : List ℕ) (hk : HasKernel bytes) (alike : IsSilentAlike bytes) (small : All IsByte bytes)
    (low : (p1 p2 c : ℕ) (s : d.State) → (d.pins p1 p2 c s).bus < 256) (held : List Bool) where
  -- step 5, by what changed and what is down
  pub edges_law : (ch hd : ℕ → ℕ) (x : ℕ) (m : Cpu) (board : d.State) (f : ℕ → ℕ) (ring : List ℕ) → f COUNT % 128 ≤ 16
      → IsFnCell (f FN) → Safe m EDGES f ring → ((i : ℕ) → i < 12 → f (CHANGED + i) ≡ ch i) →
      ((i : ℕ) → i < 12 → f (HELD + i) ≡ hd i)
      → Leads d (kernel_in true bytes) x (begin_at d EDGES f ring m board)
      (Ends d x m board DONE (2 + (9 * 12 + 93 * changed_columns ch 0 12 + 62 * all_edges ch 0 12))
      (AfterColumns d bytes hk alike small low held m.f0 ch hd 0 12 f (λ i. f (LAYER + i)) ring))
  edges_law ch hd x m board f ring most cell safe changes helds =
      let layers : ℕ → ℕ = λ i. f (LAYER + i) in
      let f1 : ℕ → ℕ = put f R0 CHANGED in
      relax d (kernel_in true bytes) (has_rows true bytes hk) small low x m board DONE (2 + columns_time ch 0 12)
      (2 + (9 * 12 + 93 * changed_columns ch 0 12 + 62 * all_edges ch 0 12))
      (AfterColumns d bytes hk alike small low held m.f0 ch hd 0 12 f (λ i. f (LAYER + i)) ring)
      (AfterColumns d bytes hk alike small low held m.f0 ch hd 0 12 f (λ i. f (LAYER + i)) ring)
      (begin_at d EDGES f ring m board)
      (plus_two (columns_time ch 0 12) (9 * 12 + 93 * changed_columns ch 0 12 + 62 * all_edges ch 0 12)
      (time_most ch 0 12)) (λ a g rg h. h)
      (seq_just d (kernel_in true bytes) (has_rows true bytes hk) small low x m board COLUMN 2 DONE
      (columns_time ch 0 12) (laid f1 layers) ring (AfterColumns d bytes hk alike small low held m.f0 ch hd 0 12 f
      (λ i. f (LAYER + i)) ring)
      (begin_at d EDGES f ring m board) safe.1
      (leaf d (kernel_in true bytes) (has_rows true bytes hk) small low (Just (laid f1 layers) ring) (Until COLUMN ∷ [])
      EDGES COLUMN 2
      (laid f1 layers) ring x m m board f ring safe.0 (λ a. (refl, refl)) (refl, refl, refl))
      (λ x1 m1 board1 same1 safe1.
      recast d (kernel_in true bytes) (has_rows true bytes hk) small low x1 m1 board1 DONE (columns_time ch 0 12)
      (columns_time ch 0 12) (AfterColumns d bytes hk alike small low held m.f0 ch hd 0 12 f1 layers ring)
      (AfterColumns d bytes hk alike small low held m.f0 ch hd 0 12 f (λ i. f (LAYER + i)) ring)
      (begin_at d COLUMN (laid f1 layers) ring m1 board1)
      (omega arith)
      (λ a g rg h.
      record {
        cells = spread f h.w;
        same = ap (λ t. memory t rg) h.now;
        facts = record {
          w = h.w;
          now = refl;
          r0_is = h.r0_is;
          state = h.state;
          most = h.most;
          more = h.more;
          cell = h.cell;
        };
      })
      (columns_law d bytes hk alike small low held m.f0 ch hd 12 0 x1 m1 board1 f1 layers ring refl
      (record {
        pointer = refl;
        flag = ap (λ k. k.f0) same1;
        most = most;
        cell = cell;
        changes = λ i l. other_cell f CHANGED (CHANGED + i) (CHANGED + i) (omega arith) (omega (arith, l)) refl ∙ changes i l;
        helds = λ i l. other_cell f CHANGED (HELD + i) (HELD + i) (omega arith) (omega (arith, l)) refl ∙ helds i l;
      }) safe1)))
