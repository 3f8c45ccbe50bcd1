-- The cells that the reading of the columns leaves.
use Rattle.std.proofs.Common.{◌≡◌, ◌<◌, ℕ, ◌+◌, ◌-◌, true, false, nat_le, nat_lt, bit_xor, refl, arith}
use Rattle.std.proofs.lemmas.Bool.Decides.{nat_tests}
use Rattle.law_fw_logic.proofs.Columns.{scanned}
use Rattle.fw_kernel.specs.declared.cells.TheConstants.{HELD, CHANGED}

-- after the reading the cell of a column's held keys has what the column showed
pub held_cell : (look f : ℕ → ℕ) (c : ℕ) → c < 12 → scanned look f (HELD + c) ≡ look c
held_cell look f c l =
    let a : nat_le HELD (HELD + c) ≡ true = grind (arith, nat_tests) in
    let b : nat_lt (HELD + c) (HELD + 12) ≡ true = grind (arith, nat_tests, l) in
    let e : HELD + c - HELD ≡ c = omega arith in
    rw (a, b, e) refl

-- after the reading the cell of a column's changes has what differs from what was held
pub changed_cell : (look f : ℕ → ℕ) (c : ℕ) → c < 12 → scanned look f (CHANGED + c) ≡ bit_xor (f (HELD + c)) (look c)
changed_cell look f c l =
    let a : nat_le HELD (CHANGED + c) ≡ true = grind (arith, nat_tests) in
    let b : nat_lt (CHANGED + c) (HELD + 12) ≡ false = grind (arith, nat_tests) in
    let g : nat_le CHANGED (CHANGED + c) ≡ true = grind (arith, nat_tests) in
    let h : nat_lt (CHANGED + c) (CHANGED + 12) ≡ true = grind (arith, nat_tests, l) in
    let u : CHANGED + c - 16 ≡ HELD + c = omega arith in
    let v : CHANGED + c - CHANGED ≡ c = omega arith in
    rw (a, b, g, h, u, v) refl
