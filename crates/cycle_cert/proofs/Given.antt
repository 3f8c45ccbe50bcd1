-- The value that a row gives to a register, and any value that it may leave in it.
use Rattle.std.proofs.Common.{ltb, ◌≡◌, ◌≤◌, ◌<◌, ℕ, ◌+◌, ◌%◌, List, [], ◌∷◌, Bool, true, false, ◌==◌, if◌then◌else◌}
use Rattle.std.proofs.Common.{Some, None, length, get_or, set, refl, ◌∙◌, ap, arith, get_or-set_same}
use Rattle.std.proofs.lemmas.Bool.Decides.{nat_tests}
use Rattle.std.specs.List.{list_all}
use Rattle.std.specs.declared.option.Option.{Option}
use Rattle.mcs48_isa.specs.declared.operation.Op.{Op}
use Rattle.mcs48_isa.specs.declared.operation.Op.TheVariants.{Moves, Alu, Unary, Flow, PortIo, Control}
use Rattle.mcs48_isa.specs.declared.operation.MoveOp.{MoveOp}
use Rattle.mcs48_isa.specs.declared.operation.MoveOp.TheVariants.{MovRN}
use Rattle.mcs48_isa.specs.declared.operation.UnaryOp.{UnaryOp}
use Rattle.mcs48_isa.specs.declared.operation.UnaryOp.TheVariants.{IncR, DecR}
use Rattle.mcs48_isa.specs.declared.operation.FlowOp.{FlowOp}
use Rattle.mcs48_isa.specs.declared.operation.FlowOp.TheVariants.{Djnz}
use Rattle.mcs48_core.specs.declared.levels.Pins.{Pins}
use Rattle.mcs48_core.specs.Cpu.{Cpu}
use Rattle.mcs48_core.specs.Registers.{register, bank_start}
use Rattle.mcs48_core.specs.Moves.{move}
use Rattle.mcs48_core.specs.Arithmetic.{unary}
use Rattle.mcs48_core.specs.Flow.{flow}
use Rattle.mcs48_core.specs.Step.{effect}
use Rattle.cycle_cert.specs.Bounds.{byte_values}
use Rattle.cycle_cert.specs.Rows.{is_certifiable, writes, value_given, values_after}
use Rattle.bits.proofs.Every.{both}
use Rattle.cycle_cert.proofs.Values.{at_value}
use Rattle.mcs48_ranges.proofs.Operands.{gives_low}
use Rattle.cycle_cert.proofs.Registers.{keeps}

some_if : (b : Bool) (x v : ℕ) → (if b then Some x else None) ≡ Some v → (b ≡ true) × (x ≡ v)
some_if true x v e = (refl, cc)
some_if false x v e = absurd cc

below : (n k : ℕ) → ltb n k ≡ true → n < k
below n k e = grind (arith, nat_tests, e)

bank_small : (b : Bool) → bank_start b ≤ 24
bank_small true = omega arith
bank_small false = omega arith

-- the register that is written, by a number that is equal
written : (xs : List ℕ) (b : Bool) (r q v : ℕ) → (r == q) ≡ true → q < 8 → length xs ≡ 128
    → get_or (set xs (bank_start b + q) v) (bank_start b + r) 0 ≡ v
written xs b r q v e h l =
    let s : r ≡ q = grind (arith, nat_tests, e) in
    let k : bank_start b ≤ 24 = bank_small b in
    let lt : bank_start b + q < length xs = omega (arith, l, h, k) in
    rw s (rw get_or-set_same)

-- a value that a function makes of the register's
made : (f : ℕ → ℕ) (m : Cpu) (r q v : ℕ) → (if r == q then Some (f (register r m)) else None) ≡ Some v → q < 8 → length m.ram ≡ 128
    → get_or (set m.ram (bank_start m.rb + q) (f (register q m))) (bank_start m.rb + r) 0 ≡ v
made f m r q v e h l =
    let t = some_if (r == q) (f (register r m)) v e in
    let same : (r == q) ≡ true = t.0 in
    let s : q ≡ r = grind (arith, nat_tests, same) in
    written m.ram m.rb r q (f (register q m)) same h l ∙ ap (λ k. f (register k m)) s ∙ t.1

given_move : (op : MoveOp) (bytes : List ℕ) (m : Cpu) (r v : ℕ) → gives_low (Moves op) ≡ true → length m.ram ≡ 128
    → value_given (Moves op) r (register r m) ≡ Some v → register r (move op bytes m) ≡ v
given_move (MovRN q n) bytes m r v o l e = let t = some_if (r == q) n v e in written m.ram m.rb r q n t.0 (below q 8 o) l ∙ t.1
given_move op bytes m r v o l e = absurd cc

given_unary : (op : UnaryOp) (m : Cpu) (r v : ℕ) → gives_low (Unary op) ≡ true → length m.ram ≡ 128
    → value_given (Unary op) r (register r m) ≡ Some v → register r (unary op m) ≡ v
given_unary (IncR q) m r v o l e = made (λ x. (x + 1) % 256) m r q v e (below q 8 o) l
given_unary (DecR q) m r v o l e = made (λ x. (x + 255) % 256) m r q v e (below q 8 o) l
given_unary op m r v o l e = absurd cc

given_flow : (op : FlowOp) (bytes : List ℕ) (pins : Pins) (m : Cpu) (r v : ℕ) → gives_low (Flow op) ≡ true → length m.ram ≡ 128
    → value_given (Flow op) r (register r m) ≡ Some v → register r (flow op bytes pins m) ≡ v
given_flow (Djnz q to) bytes pins m r v o l e = made (λ x. (x + 255) % 256) m r q v e (below q 8 o) l
given_flow op bytes pins m r v o l e = absurd cc

-- a row that gives a register a value leaves it there
pub given : (op : Op) (bytes : List ℕ) (pins : Pins) (m : Cpu) (r v : ℕ) → gives_low op ≡ true → length m.ram ≡ 128
    → value_given op r (register r m) ≡ Some v → register r (effect op bytes pins m) ≡ v
given (Moves op) bytes pins m r v o l e = given_move op bytes m r v o l e
given (Unary op) bytes pins m r v o l e = given_unary op m r v o l e
given (Flow op) bytes pins m r v o l e = given_flow op bytes pins m r v o l e
given (Alu op) bytes pins m r v o l e = absurd cc
given (PortIo op) bytes pins m r v o l e = absurd cc
given (Control op) bytes pins m r v o l e = absurd cc

-- what holds of all values that a row allows a register holds of the one that it leaves
module _ (op : Op) (bytes : List ℕ) (pins : Pins) (m : Cpu) (r : ℕ) (p : ℕ → Bool) where
  left_by : gives_low op ≡ true → is_certifiable op ≡ true → m.rb ≡ false → length m.ram ≡ 128 → r < 8
      → register r (effect op bytes pins m) < 256
      → (g : Option ℕ) (w : Bool) → value_given op r (register r m) ≡ g → writes op r ≡ w
      → list_all p (elim g as (λ x. List ℕ) [ Some v ↦ v ∷ [] | None ↦ if w then byte_values else register r m ∷ [] ]) ≡ true
      → p (register r (effect op bytes pins m)) ≡ true
  left_by o a b l h small (Some v) w e f t =
      let is : register r (effect op bytes pins m) ≡ v = given op bytes pins m r v o l e in
      rw is (both (p v) true t).0
  left_by o a b l h small None true e f t = at_value p (register r (effect op bytes pins m)) t small
  left_by o a b l h small None false e f t =
      let is : register r (effect op bytes pins m) ≡ register r m = keeps op bytes pins m r a b h f in
      rw is (both (p (register r m)) true t).0

  -- what is so of each value that a row may leave in a register is so of the one that it leaves
  pub value_left : gives_low op ≡ true → is_certifiable op ≡ true → m.rb ≡ false → length m.ram ≡ 128 → r < 8
      → register r (effect op bytes pins m) < 256
      → list_all p (values_after op r (register r m)) ≡ true → p (register r (effect op bytes pins m)) ≡ true
  value_left o a b l h small t = left_by o a b l h small (value_given op r (register r m)) (writes op r) refl refl t
