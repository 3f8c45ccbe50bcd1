-- Where the counter is after a row: at one of the row's ways out, which the registers allow.
use Rattle.std.proofs.Common.{◌≡◌, ◌<◌, ℕ, ◌+◌, ◌*◌, ◌%◌, List, [], ◌∷◌, Bool, true, false, not}
use Rattle.std.proofs.Common.{◌&&◌, ◌==◌, ltb, if◌then◌else◌, refl, ap, arith}
use Rattle.std.proofs.lemmas.Bool.Decides.{nat_tests}
use Rattle.std.specs.List.{list_all}
use Rattle.mcs48_isa.specs.Text.{target}
use Rattle.mcs48_isa.specs.declared.operation.Op.{Op}
use Rattle.mcs48_isa.specs.declared.operation.Op.TheVariants.{Moves, Alu, Unary, Flow, PortIo, Control}
use Rattle.mcs48_isa.specs.declared.operation.MoveOp.{MoveOp}
use Rattle.mcs48_isa.specs.declared.operation.MoveOp.TheVariants.{MovAN, MovRN, MovIN}
use Rattle.mcs48_isa.specs.declared.operation.AluOp.{AluOp}
use Rattle.mcs48_isa.specs.declared.operation.AluOp.TheVariants.{AddN, AddcN, AnlN, OrlN, XrlN}
use Rattle.mcs48_isa.specs.declared.operation.UnaryOp.{UnaryOp}
use Rattle.mcs48_isa.specs.declared.operation.UnaryOp.TheVariants.{IncA}
use Rattle.mcs48_isa.specs.declared.operation.FlowOp.{FlowOp}
use Rattle.mcs48_isa.specs.declared.operation.FlowOp.TheVariants.{Jmp, Call, Ret, Retr, Jmpp, Djnz, Jb, Jc, Jnc, Jz, Jnz}
use Rattle.mcs48_isa.specs.declared.operation.FlowOp.TheVariants.{Jt0, Jnt0, Jt1, Jnt1, Jf0, Jf1, Jtf, Jni}
use Rattle.mcs48_isa.specs.declared.operation.PortOp.{PortOp}
use Rattle.mcs48_isa.specs.declared.operation.PortOp.TheVariants.{AnlP1, AnlP2, AnlBus, OrlP1, OrlP2, OrlBus}
use Rattle.mcs48_isa.specs.declared.operation.ControlOp.{ControlOp}
use Rattle.mcs48_isa.specs.declared.operation.ControlOp.TheVariants.{Nop}
use Rattle.mcs48_core.specs.declared.levels.Pins.{Pins}
use Rattle.mcs48_core.specs.Cpu.{Cpu}
use Rattle.bits.specs.Bits.{bit}
use Rattle.mcs48_core.specs.Registers.{past, counted, in_page, register}
use Rattle.mcs48_core.specs.Moves.{move}
use Rattle.mcs48_core.specs.Arithmetic.{alu, unary}
use Rattle.mcs48_core.specs.Flow.{flow, bank_bit}
use Rattle.mcs48_core.specs.Ports.{port}
use Rattle.mcs48_core.specs.Control.{control}
use Rattle.mcs48_core.specs.Step.{effect}
use Rattle.cycle_cert.specs.declared.rows.When.TheVariants.{NotAtOne, AtOne}
use Rattle.cycle_cert.specs.declared.rows.Way.{Way}
use Rattle.cycle_cert.specs.Rows.{is_certifiable, fits, place_after, way, branch_ways, counting_ways, ways}
use Rattle.bits.proofs.Every.{both}
use Rattle.mcs48_ranges.proofs.Operands.{small, size}

-- of ways that all pass a test, one that leads to a place and that the registers allow
pub record Takes (test : Way → Bool) (place : ℕ) (value : ℕ → ℕ) : Type 0 where
  pub out : Way
  pub passes : test out ≡ true
  pub to : out.to ≡ place
  pub allowed : (r : ℕ) → fits out.when r (value r) ≡ true

after_one : (pc : ℕ) → (pc % 2048 + 1) % 2048 ≡ counted pc % 2048
after_one pc = omega arith

after_two : (pc : ℕ) → (pc % 2048 + 2) % 2048 ≡ counted (counted pc) % 2048
after_two pc = omega arith

in_target : (pc n : ℕ) → n < 256 → target (pc % 2048) n ≡ in_page (counted pc) n % 2048
in_target pc n l = omega (arith, l)

far_target : (k to : ℕ) → to < 2048 → to ≡ (2048 * k + to) % 2048
far_target k to l = omega (arith, l)

below : (n k : ℕ) → ltb n k ≡ true → n < k
below n k e = grind (arith, nat_tests, e)

not_one : (v : ℕ) → not ((v + 255) % 256 == 0) ≡ true → not (v == 1) ≡ true
not_one v e =
    elim (v == 1) as (λ b. (v == 1) ≡ b → not b ≡ true) [
      | true ↦ λ h. let s : v ≡ 1 = grind (arith, nat_tests, h) in absurd (let k : not ((1 + 255) % 256 == 0) ≡ true = rw s at e in cc)
      | false ↦ λ h. refl
    ] refl

is_one : (v : ℕ) → v < 256 → not ((v + 255) % 256 == 0) ≡ false → (v == 1) ≡ true
is_one v l e =
    elim ((v + 255) % 256 == 0) as (λ b. ((v + 255) % 256 == 0) ≡ b → not b ≡ false → (v == 1) ≡ true) [
      | true ↦ λ h g. let z : (v + 255) % 256 ≡ 0 = grind (arith, nat_tests, h) in let s : v ≡ 1 = omega (arith, z, l) in rw s refl
      | false ↦ λ h g. absurd cc
    ] refl e

module _ (test : Way → Bool) (value : ℕ → ℕ) where
  only : (to place : ℕ) → list_all test (way to ∷ []) ≡ true → to ≡ place → Takes test place value
  only to place h e = record { out = way to; passes = (both (test (way to)) true h).0; to = e; allowed = λ r. refl }

  either : (b : Bool) (n pc : ℕ) → n < 256 → list_all test (branch_ways n 2 (pc % 2048)) ≡ true
      → Takes test ((if b then in_page (counted pc) n else counted (counted pc)) % 2048) value
  either true n pc l h =
      let jump = way (target (pc % 2048) n) in
      let next = way (place_after (pc % 2048) 2) in
      record { out = jump; passes = (both (test jump) (test next && true) h).0; to = in_target pc n l; allowed = λ r. refl }
  either false n pc l h =
      let jump = way (target (pc % 2048) n) in
      let next = way (place_after (pc % 2048) 2) in
      only (place_after (pc % 2048) 2) (counted (counted pc) % 2048) (both (test jump) (test next && true) h).1 (after_two pc)

  jump_allowed : (c : ℕ) → not ((value c + 255) % 256 == 0) ≡ true → (r : ℕ) (b : Bool) → (r == c) ≡ b
      → (if b then not (value r == 1) else true) ≡ true
  jump_allowed c e r true h =
      let s : r ≡ c = grind (arith, nat_tests, h) in
      let v : value r ≡ value c = ap value s in
      rw v (not_one (value c) e)
  jump_allowed c e r false h = refl

  next_allowed : (c : ℕ) → value c < 256 → not ((value c + 255) % 256 == 0) ≡ false → (r : ℕ) (b : Bool)
      → (r == c) ≡ b → (if b then value r == 1 else true) ≡ true
  next_allowed c l e r true h =
      let s : r ≡ c = grind (arith, nat_tests, h) in
      let v : value r ≡ value c = ap value s in
      rw v (is_one (value c) l e)
  next_allowed c l e r false h = refl

  counting : (c n pc : ℕ) (b : Bool) → not ((value c + 255) % 256 == 0) ≡ b → n < 256 → value c < 256
      → list_all test (counting_ways c n 2 (pc % 2048)) ≡ true
      → Takes test ((if b then in_page (counted pc) n else counted (counted pc)) % 2048) value
  counting c n pc true e l v h =
      let jump : Way = record { to = target (pc % 2048) n; when = NotAtOne c } in
      let next : Way = record { to = place_after (pc % 2048) 2; when = AtOne c } in
      record {
        out = jump;
        passes =
            (both (test jump) (test next && true) h).0;
        to = in_target pc n l;
        allowed = λ r. jump_allowed c e r (r == c) refl;
      }
  counting c n pc false e l v h =
      let jump : Way = record { to = target (pc % 2048) n; when = NotAtOne c } in
      let next : Way = record { to = place_after (pc % 2048) 2; when = AtOne c } in
      record {
        out = next;
        passes = (both (test next) true (both (test jump) (test next && true) h).1).0;
        to = after_two pc;
        allowed = λ r. next_allowed c v e r (r == c) refl;
      }

  move_takes : (op : MoveOp) (bytes : List ℕ) (m : Cpu) → list_all test (ways (Moves op) (size (Moves op)) (m.pc % 2048)) ≡ true
      → Takes test ((move op bytes (past m)).pc % 2048) value
  move_takes (MovAN n) bytes m h = only (place_after (m.pc % 2048) 2) (counted (counted m.pc) % 2048) h (after_two m.pc)
  move_takes (MovRN r n) bytes m h = only (place_after (m.pc % 2048) 2) (counted (counted m.pc) % 2048) h (after_two m.pc)
  move_takes (MovIN i n) bytes m h = only (place_after (m.pc % 2048) 2) (counted (counted m.pc) % 2048) h (after_two m.pc)
  move_takes op bytes m h = only (place_after (m.pc % 2048) 1) (counted m.pc % 2048) h (after_one m.pc)

  alu_takes : (op : AluOp) (m : Cpu) → list_all test (ways (Alu op) (size (Alu op)) (m.pc % 2048)) ≡ true
      → Takes test ((alu op (past m)).pc % 2048) value
  alu_takes (AddN n) m h = only (place_after (m.pc % 2048) 2) (counted (counted m.pc) % 2048) h (after_two m.pc)
  alu_takes (AddcN n) m h = only (place_after (m.pc % 2048) 2) (counted (counted m.pc) % 2048) h (after_two m.pc)
  alu_takes (AnlN n) m h = only (place_after (m.pc % 2048) 2) (counted (counted m.pc) % 2048) h (after_two m.pc)
  alu_takes (OrlN n) m h = only (place_after (m.pc % 2048) 2) (counted (counted m.pc) % 2048) h (after_two m.pc)
  alu_takes (XrlN n) m h = only (place_after (m.pc % 2048) 2) (counted (counted m.pc) % 2048) h (after_two m.pc)
  alu_takes op m h = only (place_after (m.pc % 2048) 1) (counted m.pc % 2048) h (after_one m.pc)

  unary_takes : (op : UnaryOp) (m : Cpu) → list_all test (ways (Unary op) (size (Unary op)) (m.pc % 2048)) ≡ true
      → Takes test ((unary op (past m)).pc % 2048) value
  unary_takes IncA m h = only (place_after (m.pc % 2048) 1) (counted m.pc % 2048) h (after_one m.pc)
  unary_takes op m h = only (place_after (m.pc % 2048) 1) (counted m.pc % 2048) h (after_one m.pc)

  port_takes : (op : PortOp) (pins : Pins) (m : Cpu) → list_all test (ways (PortIo op) (size (PortIo op)) (m.pc % 2048)) ≡ true
      → Takes test ((port op pins (past m)).pc % 2048) value
  port_takes (AnlP1 n) pins m h = only (place_after (m.pc % 2048) 2) (counted (counted m.pc) % 2048) h (after_two m.pc)
  port_takes (AnlP2 n) pins m h = only (place_after (m.pc % 2048) 2) (counted (counted m.pc) % 2048) h (after_two m.pc)
  port_takes (AnlBus n) pins m h = only (place_after (m.pc % 2048) 2) (counted (counted m.pc) % 2048) h (after_two m.pc)
  port_takes (OrlP1 n) pins m h = only (place_after (m.pc % 2048) 2) (counted (counted m.pc) % 2048) h (after_two m.pc)
  port_takes (OrlP2 n) pins m h = only (place_after (m.pc % 2048) 2) (counted (counted m.pc) % 2048) h (after_two m.pc)
  port_takes (OrlBus n) pins m h = only (place_after (m.pc % 2048) 2) (counted (counted m.pc) % 2048) h (after_two m.pc)
  port_takes op pins m h = only (place_after (m.pc % 2048) 1) (counted m.pc % 2048) h (after_one m.pc)

  control_takes : (op : ControlOp) (m : Cpu) → list_all test (ways (Control op) (size (Control op)) (m.pc % 2048)) ≡ true
      → Takes test ((control op (past m)).pc % 2048) value
  control_takes Nop m h = only (place_after (m.pc % 2048) 1) (counted m.pc % 2048) h (after_one m.pc)
  control_takes op m h = only (place_after (m.pc % 2048) 1) (counted m.pc % 2048) h (after_one m.pc)

-- the registers of the selected bank
abbrev pub values_of : Cpu → ℕ → ℕ
values_of m r = register r m

flow_takes : (test : Way → Bool) (op : FlowOp) (bytes : List ℕ) (pins : Pins) (m : Cpu)
    → is_certifiable (Flow op) ≡ true → small (Flow op) ≡ true
    → ((r : ℕ) → register r m < 256) → list_all test (ways (Flow op) (size (Flow op)) (m.pc % 2048)) ≡ true
    → Takes test ((flow op bytes pins (past m)).pc % 2048) (values_of m)
flow_takes test (Jmp to) bytes pins m a s v h =
    only test (values_of m) to ((2048 * bank_bit (past m) + to) % 2048) h (far_target (bank_bit (past m)) to (below to 2048 s))
flow_takes test (Call to) bytes pins m a s v h =
    only test (values_of m) to ((2048 * bank_bit (past m) + to) % 2048) h (far_target (bank_bit (past m)) to (below to 2048 s))
flow_takes test Ret bytes pins m a s v h = absurd cc
flow_takes test Retr bytes pins m a s v h = absurd cc
flow_takes test Jmpp bytes pins m a s v h = absurd cc
flow_takes test (Djnz r n) bytes pins m a s v h =
    counting test (values_of m) r n m.pc (not ((register r m + 255) % 256 == 0)) refl (below n 256 s) (v r) h
flow_takes test (Jb k n) bytes pins m a s v h = either test (values_of m) (bit k m.a) n m.pc (below n 256 s) h
flow_takes test (Jc n) bytes pins m a s v h = either test (values_of m) m.c n m.pc (below n 256 s) h
flow_takes test (Jnc n) bytes pins m a s v h = either test (values_of m) (not m.c) n m.pc (below n 256 s) h
flow_takes test (Jz n) bytes pins m a s v h = either test (values_of m) (m.a == 0) n m.pc (below n 256 s) h
flow_takes test (Jnz n) bytes pins m a s v h = either test (values_of m) (not (m.a == 0)) n m.pc (below n 256 s) h
flow_takes test (Jt0 n) bytes pins m a s v h = either test (values_of m) pins.t0 n m.pc (below n 256 s) h
flow_takes test (Jnt0 n) bytes pins m a s v h = either test (values_of m) (not pins.t0) n m.pc (below n 256 s) h
flow_takes test (Jt1 n) bytes pins m a s v h = either test (values_of m) pins.t1 n m.pc (below n 256 s) h
flow_takes test (Jnt1 n) bytes pins m a s v h = either test (values_of m) (not pins.t1) n m.pc (below n 256 s) h
flow_takes test (Jf0 n) bytes pins m a s v h = either test (values_of m) m.f0 n m.pc (below n 256 s) h
flow_takes test (Jf1 n) bytes pins m a s v h = either test (values_of m) m.f1 n m.pc (below n 256 s) h
flow_takes test (Jtf n) bytes pins m a s v h = either test (values_of m) m.tf n m.pc (below n 256 s) h
flow_takes test (Jni n) bytes pins m a s v h = either test (values_of m) (not pins.int_pin) n m.pc (below n 256 s) h

-- after a row that may be certified the counter is at one of its ways out
pub takes : (test : Way → Bool) (op : Op) (bytes : List ℕ) (pins : Pins) (m : Cpu) → is_certifiable op ≡ true → small op ≡ true
    → ((r : ℕ) → register r m < 256) → list_all test (ways op (size op) (m.pc % 2048)) ≡ true
    → Takes test ((effect op bytes pins (past m)).pc % 2048) (values_of m)
takes test (Moves op) bytes pins m a s v h = move_takes test (values_of m) op bytes m h
takes test (Alu op) bytes pins m a s v h = alu_takes test (values_of m) op m h
takes test (Unary op) bytes pins m a s v h = unary_takes test (values_of m) op m h
takes test (Flow op) bytes pins m a s v h = flow_takes test op bytes pins m a s v h
takes test (PortIo op) bytes pins m a s v h = port_takes test (values_of m) op pins m h
takes test (Control op) bytes pins m a s v h = control_takes test (values_of m) op m h
