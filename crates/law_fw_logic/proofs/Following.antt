-- What follows a row: the places that the counter can come to, and what the row leaves as it was.
use Rattle.std.proofs.Common.{◌≡◌, ℕ, ◌+◌, ◌*◌, ◌%◌, List, [], ◌∷◌, Bool, true, false, not, ◌&&◌, ◌==◌, if◌then◌else◌}
use Rattle.std.proofs.Common.{refl, ap, subst, arith}
use Rattle.std.specs.List.{list_all}
use Rattle.mcs48_isa.specs.declared.operation.Op.{Op}
use Rattle.mcs48_isa.specs.declared.operation.Op.TheVariants.{Moves, Alu, Unary, Flow, PortIo, Control}
use Rattle.mcs48_isa.specs.declared.operation.MoveOp.{MoveOp}
use Rattle.mcs48_isa.specs.declared.operation.MoveOp.TheVariants.{MovAN, MovRN, MovIN, MovPswA}
use Rattle.mcs48_isa.specs.declared.operation.AluOp.{AluOp}
use Rattle.mcs48_isa.specs.declared.operation.AluOp.TheVariants.{AddN, AddcN, AnlN, OrlN, XrlN}
use Rattle.mcs48_isa.specs.declared.operation.UnaryOp.{UnaryOp}
use Rattle.mcs48_isa.specs.declared.operation.UnaryOp.TheVariants.{IncA}
use Rattle.mcs48_isa.specs.declared.operation.FlowOp.{FlowOp}
use Rattle.mcs48_isa.specs.declared.operation.FlowOp.TheVariants.{Jmp, Call, Ret, Retr, Jmpp, Djnz, Jb, Jc, Jnc, Jz}
use Rattle.mcs48_isa.specs.declared.operation.FlowOp.TheVariants.{Jnz, Jt0, Jnt0, Jt1, Jnt1, Jf0, Jf1, Jtf, Jni}
use Rattle.mcs48_isa.specs.declared.operation.PortOp.{PortOp}
use Rattle.mcs48_isa.specs.declared.operation.PortOp.TheVariants.{OutlP1, AnlP1, AnlP2, AnlBus, OrlP1, OrlP2, OrlBus}
use Rattle.mcs48_isa.specs.declared.operation.ControlOp.{ControlOp}
use Rattle.mcs48_isa.specs.declared.operation.ControlOp.TheVariants.{Nop, EnI, DisI, SelMb0, SelMb1, Ent0Clk}
use Rattle.mcs48_core.specs.declared.levels.Pins.{Pins}
use Rattle.mcs48_core.specs.Cpu.{Cpu}
use Rattle.bits.specs.Bits.{bit}
use Rattle.mcs48_core.specs.Registers.{past, counted, in_page, register}
use Rattle.mcs48_core.specs.Moves.{move}
use Rattle.mcs48_core.specs.Arithmetic.{alu, unary}
use Rattle.mcs48_core.specs.Flow.{flow, bank_bit}
use Rattle.mcs48_core.specs.Ports.{port}
use Rattle.mcs48_core.specs.Control.{control}
use Rattle.mcs48_core.specs.Step.{effect}
use Rattle.mcs48_ranges.proofs.Operands.{size}
use Rattle.bits.proofs.Every.{both}

-- a row that keeps to its way: no call or return, no place that is computed; and it leaves the stack, the external
-- interrupt, the memory bank and the clock's output alone
abbrev pub is_steady : Op → Bool
is_steady (Moves MovPswA) = false
is_steady (Flow (Call to)) = false
is_steady (Flow Ret) = false
is_steady (Flow Retr) = false
is_steady (Flow Jmpp) = false
is_steady (Control EnI) = false
is_steady (Control DisI) = false
is_steady (Control SelMb0) = false
is_steady (Control SelMb1) = false
is_steady (Control Ent0Clk) = false
is_steady op = true

-- the counter after a row of this many bytes
abbrev afterwards : ℕ → ℕ → ℕ
afterwards len pc = if len == 2 then counted (counted pc) else counted pc

-- where the counter can be after a steady row at a place of the program's lower half
abbrev pub nexts : Op → ℕ → List ℕ
nexts (Flow (Jmp to)) pc = to ∷ []
nexts (Flow (Djnz r n)) pc = in_page (counted pc) n ∷ counted (counted pc) ∷ []
nexts (Flow (Jb b n)) pc = in_page (counted pc) n ∷ counted (counted pc) ∷ []
nexts (Flow (Jc n)) pc = in_page (counted pc) n ∷ counted (counted pc) ∷ []
nexts (Flow (Jnc n)) pc = in_page (counted pc) n ∷ counted (counted pc) ∷ []
nexts (Flow (Jz n)) pc = in_page (counted pc) n ∷ counted (counted pc) ∷ []
nexts (Flow (Jnz n)) pc = in_page (counted pc) n ∷ counted (counted pc) ∷ []
nexts (Flow (Jt0 n)) pc = in_page (counted pc) n ∷ counted (counted pc) ∷ []
nexts (Flow (Jnt0 n)) pc = in_page (counted pc) n ∷ counted (counted pc) ∷ []
nexts (Flow (Jt1 n)) pc = in_page (counted pc) n ∷ counted (counted pc) ∷ []
nexts (Flow (Jnt1 n)) pc = in_page (counted pc) n ∷ counted (counted pc) ∷ []
nexts (Flow (Jf0 n)) pc = in_page (counted pc) n ∷ counted (counted pc) ∷ []
nexts (Flow (Jf1 n)) pc = in_page (counted pc) n ∷ counted (counted pc) ∷ []
nexts (Flow (Jtf n)) pc = in_page (counted pc) n ∷ counted (counted pc) ∷ []
nexts (Flow (Jni n)) pc = in_page (counted pc) n ∷ counted (counted pc) ∷ []
nexts op pc = afterwards (size op) pc ∷ []

module _ (test : ℕ → Bool) where
  only : (to : ℕ) → list_all test (to ∷ []) ≡ true → test to ≡ true
  only to h = (both (test to) true h).0

  either : (b : Bool) (to next : ℕ) → list_all test (to ∷ next ∷ []) ≡ true → test (if b then to else next) ≡ true
  either true to next h = (both (test to) (test next && true) h).0
  either false to next h = only next (both (test to) (test next && true) h).1

  -- to a place of the lower half
  far : (m : Cpu) (to : ℕ) → m.mb ≡ false → list_all test (to ∷ []) ≡ true → test (2048 * bank_bit m + to) ≡ true
  far m to low h =
      let none : bank_bit m ≡ 0 = ap (λ b. elim b as (λ v. ℕ) [ false ↦ 0 | true ↦ if m.svc then 0 else 1 ]) low in
      let there : to ≡ 2048 * bank_bit m + to = omega (arith, none) in
      subst (λ p. test p ≡ true) there (only to h)

  move_next : (op : MoveOp) (bytes : List ℕ) (m : Cpu) → list_all test (nexts (Moves op) m.pc) ≡ true
      → test (move op bytes (past m)).pc ≡ true
  move_next (MovAN n) bytes m h = only (counted (counted m.pc)) h
  move_next (MovRN r n) bytes m h = only (counted (counted m.pc)) h
  move_next (MovIN i n) bytes m h = only (counted (counted m.pc)) h
  move_next op bytes m h = only (counted m.pc) h

  alu_next : (op : AluOp) (m : Cpu) → list_all test (nexts (Alu op) m.pc) ≡ true → test (alu op (past m)).pc ≡ true
  alu_next (AddN n) m h = only (counted (counted m.pc)) h
  alu_next (AddcN n) m h = only (counted (counted m.pc)) h
  alu_next (AnlN n) m h = only (counted (counted m.pc)) h
  alu_next (OrlN n) m h = only (counted (counted m.pc)) h
  alu_next (XrlN n) m h = only (counted (counted m.pc)) h
  alu_next op m h = only (counted m.pc) h

  unary_next : (op : UnaryOp) (m : Cpu) → list_all test (nexts (Unary op) m.pc) ≡ true
      → test (unary op (past m)).pc ≡ true
  unary_next IncA m h = only (counted m.pc) h
  unary_next op m h = only (counted m.pc) h

  port_next : (op : PortOp) (pins : Pins) (m : Cpu) → list_all test (nexts (PortIo op) m.pc) ≡ true
      → test (port op pins (past m)).pc ≡ true
  port_next (AnlP1 n) pins m h = only (counted (counted m.pc)) h
  port_next (AnlP2 n) pins m h = only (counted (counted m.pc)) h
  port_next (AnlBus n) pins m h = only (counted (counted m.pc)) h
  port_next (OrlP1 n) pins m h = only (counted (counted m.pc)) h
  port_next (OrlP2 n) pins m h = only (counted (counted m.pc)) h
  port_next (OrlBus n) pins m h = only (counted (counted m.pc)) h
  port_next op pins m h = only (counted m.pc) h

  control_next : (op : ControlOp) (m : Cpu) → list_all test (nexts (Control op) m.pc) ≡ true
      → test (control op (past m)).pc ≡ true
  control_next Nop m h = only (counted m.pc) h
  control_next op m h = only (counted m.pc) h

  flow_next : (op : FlowOp) (bytes : List ℕ) (pins : Pins) (m : Cpu) → is_steady (Flow op) ≡ true → m.mb ≡ false
      → list_all test (nexts (Flow op) m.pc) ≡ true → test (flow op bytes pins (past m)).pc ≡ true
  flow_next (Jmp to) bytes pins m s low h = far (past m) to low h
  flow_next (Call to) bytes pins m s low h = absurd cc
  flow_next Ret bytes pins m s low h = absurd cc
  flow_next Retr bytes pins m s low h = absurd cc
  flow_next Jmpp bytes pins m s low h = absurd cc
  flow_next (Djnz r n) bytes pins m s low h =
      either (not ((register r m + 255) % 256 == 0)) (in_page (counted m.pc) n) (counted (counted m.pc)) h
  flow_next (Jb k n) bytes pins m s low h = either (bit k m.a) (in_page (counted m.pc) n) (counted (counted m.pc)) h
  flow_next (Jc n) bytes pins m s low h = either m.c (in_page (counted m.pc) n) (counted (counted m.pc)) h
  flow_next (Jnc n) bytes pins m s low h = either (not m.c) (in_page (counted m.pc) n) (counted (counted m.pc)) h
  flow_next (Jz n) bytes pins m s low h = either (m.a == 0) (in_page (counted m.pc) n) (counted (counted m.pc)) h
  flow_next (Jnz n) bytes pins m s low h =
      either (not (m.a == 0)) (in_page (counted m.pc) n) (counted (counted m.pc)) h
  flow_next (Jt0 n) bytes pins m s low h = either pins.t0 (in_page (counted m.pc) n) (counted (counted m.pc)) h
  flow_next (Jnt0 n) bytes pins m s low h = either (not pins.t0) (in_page (counted m.pc) n) (counted (counted m.pc)) h
  flow_next (Jt1 n) bytes pins m s low h = either pins.t1 (in_page (counted m.pc) n) (counted (counted m.pc)) h
  flow_next (Jnt1 n) bytes pins m s low h = either (not pins.t1) (in_page (counted m.pc) n) (counted (counted m.pc)) h
  flow_next (Jf0 n) bytes pins m s low h = either m.f0 (in_page (counted m.pc) n) (counted (counted m.pc)) h
  flow_next (Jf1 n) bytes pins m s low h = either m.f1 (in_page (counted m.pc) n) (counted (counted m.pc)) h
  flow_next (Jtf n) bytes pins m s low h = either m.tf (in_page (counted m.pc) n) (counted (counted m.pc)) h
  flow_next (Jni n) bytes pins m s low h =
      either (not pins.int_pin) (in_page (counted m.pc) n) (counted (counted m.pc)) h

  -- what holds of each place that can follow a steady row holds of the counter after it
  pub follows : (op : Op) (bytes : List ℕ) (pins : Pins) (m : Cpu) → is_steady op ≡ true → m.mb ≡ false
      → list_all test (nexts op m.pc) ≡ true → test (effect op bytes pins (past m)).pc ≡ true
  follows (Moves op) bytes pins m s low h = move_next op bytes m h
  follows (Alu op) bytes pins m s low h = alu_next op m h
  follows (Unary op) bytes pins m s low h = unary_next op m h
  follows (Flow op) bytes pins m s low h = flow_next op bytes pins m s low h
  follows (PortIo op) bytes pins m s low h = port_next op pins m h
  follows (Control op) bytes pins m s low h = control_next op m h

-- what a steady row leaves as it was
pub record Stays : Type 0 where
  pub svc : Bool
  pub mb : Bool
  pub ext_on : Bool
  pub clk : Bool
  pub sp : ℕ

abbrev pub stays_of : Cpu → Stays
stays_of m = record { svc = m.svc; mb = m.mb; ext_on = m.ext_on; clk = m.clk; sp = m.sp }

move_stays : (op : MoveOp) (bytes : List ℕ) (m : Cpu) → is_steady (Moves op) ≡ true
    → stays_of (move op bytes m) ≡ stays_of m
move_stays MovPswA bytes m s = absurd cc
move_stays op bytes m s = refl

alu_stays : (op : AluOp) (m : Cpu) → stays_of (alu op m) ≡ stays_of m
alu_stays (AddN n) m = refl
alu_stays op m = refl

unary_stays : (op : UnaryOp) (m : Cpu) → stays_of (unary op m) ≡ stays_of m
unary_stays IncA m = refl
unary_stays op m = refl

flow_stays : (op : FlowOp) (bytes : List ℕ) (pins : Pins) (m : Cpu) → is_steady (Flow op) ≡ true
    → stays_of (flow op bytes pins m) ≡ stays_of m
flow_stays (Call to) bytes pins m s = absurd cc
flow_stays Ret bytes pins m s = absurd cc
flow_stays Retr bytes pins m s = absurd cc
flow_stays Jmpp bytes pins m s = absurd cc
flow_stays op bytes pins m s = refl

port_stays : (op : PortOp) (pins : Pins) (m : Cpu) → stays_of (port op pins m) ≡ stays_of m
port_stays (AnlP1 n) pins m = refl
port_stays op pins m = refl

control_stays : (op : ControlOp) (m : Cpu) → is_steady (Control op) ≡ true → stays_of (control op m) ≡ stays_of m
control_stays EnI m s = absurd cc
control_stays DisI m s = absurd cc
control_stays SelMb0 m s = absurd cc
control_stays SelMb1 m s = absurd cc
control_stays Ent0Clk m s = absurd cc
control_stays op m s = refl

-- a steady row leaves the stack pointer, the memory bank, the external interrupt, the service and the clock's output
pub effect_stays : (op : Op) (bytes : List ℕ) (pins : Pins) (m : Cpu) → is_steady op ≡ true
    → stays_of (effect op bytes pins m) ≡ stays_of m
effect_stays (Moves op) bytes pins m s = move_stays op bytes m s
effect_stays (Alu op) bytes pins m s = alu_stays op m
effect_stays (Unary op) bytes pins m s = unary_stays op m
effect_stays (Flow op) bytes pins m s = flow_stays op bytes pins m s
effect_stays (PortIo op) bytes pins m s = port_stays op pins m
effect_stays (Control op) bytes pins m s = control_stays op m s

-- a row that leaves port 1's latch
abbrev pub keeps_column : Op → Bool
keeps_column (PortIo OutlP1) = false
keeps_column (PortIo (AnlP1 n)) = false
keeps_column (PortIo (OrlP1 n)) = false
keeps_column op = true

move_column : (op : MoveOp) (bytes : List ℕ) (m : Cpu) → (move op bytes m).p1 ≡ m.p1
move_column (MovAN n) bytes m = refl
move_column op bytes m = refl

alu_column : (op : AluOp) (m : Cpu) → (alu op m).p1 ≡ m.p1
alu_column (AddN n) m = refl
alu_column op m = refl

unary_column : (op : UnaryOp) (m : Cpu) → (unary op m).p1 ≡ m.p1
unary_column IncA m = refl
unary_column op m = refl

flow_column : (op : FlowOp) (bytes : List ℕ) (pins : Pins) (m : Cpu) → (flow op bytes pins m).p1 ≡ m.p1
flow_column (Jmp to) bytes pins m = refl
flow_column op bytes pins m = refl

port_column : (op : PortOp) (pins : Pins) (m : Cpu) → keeps_column (PortIo op) ≡ true → (port op pins m).p1 ≡ m.p1
port_column OutlP1 pins m k = absurd cc
port_column (AnlP1 n) pins m k = absurd cc
port_column (OrlP1 n) pins m k = absurd cc
port_column op pins m k = refl

control_column : (op : ControlOp) (m : Cpu) → (control op m).p1 ≡ m.p1
control_column Nop m = refl
control_column op m = refl

-- a row that doesn't put port 1 leaves its latch, so the same column stays selected
pub effect_column : (op : Op) (bytes : List ℕ) (pins : Pins) (m : Cpu) → keeps_column op ≡ true
    → (effect op bytes pins m).p1 ≡ m.p1
effect_column (Moves op) bytes pins m k = move_column op bytes m
effect_column (Alu op) bytes pins m k = alu_column op m
effect_column (Unary op) bytes pins m k = unary_column op m
effect_column (Flow op) bytes pins m k = flow_column op bytes pins m
effect_column (PortIo op) bytes pins m k = port_column op pins m k
effect_column (Control op) bytes pins m k = control_column op m
