-- What each row does to the registers of bank 0.
use Rattle.std.proofs.Common.{◌≡◌, ◌≢◌, ◌<◌, ℕ, ◌+◌, ◌*◌, ◌/◌, ◌%◌, List, true, false, ◌==◌}
use Rattle.std.proofs.Common.{get_or, set, refl, sym, ap, subst, arith, get_or-set_other}
use Rattle.std.proofs.lemmas.Bool.Decides.{nat_tests}
use Rattle.mcs48_isa.specs.declared.operation.Op.{Op}
use Rattle.mcs48_isa.specs.declared.operation.Op.TheVariants.{Moves, Alu, Unary, Flow, PortIo, Control}
use Rattle.mcs48_isa.specs.declared.operation.MoveOp.{MoveOp}
use Rattle.mcs48_isa.specs.declared.operation.MoveOp.TheVariants.{MovRA, MovIA, MovRN, MovIN, MovPswA, XchR, XchI, XchdI}
use Rattle.mcs48_isa.specs.declared.operation.AluOp.{AluOp}
use Rattle.mcs48_isa.specs.declared.operation.AluOp.TheVariants.{AddN}
use Rattle.mcs48_isa.specs.declared.operation.UnaryOp.{UnaryOp}
use Rattle.mcs48_isa.specs.declared.operation.UnaryOp.TheVariants.{IncR, IncI, DecR}
use Rattle.mcs48_isa.specs.declared.operation.FlowOp.{FlowOp}
use Rattle.mcs48_isa.specs.declared.operation.FlowOp.TheVariants.{Call, Ret, Retr, Djnz}
use Rattle.mcs48_isa.specs.declared.operation.PortOp.{PortOp}
use Rattle.mcs48_isa.specs.declared.operation.PortOp.TheVariants.{InP1}
use Rattle.mcs48_isa.specs.declared.operation.ControlOp.{ControlOp}
use Rattle.mcs48_isa.specs.declared.operation.ControlOp.TheVariants.{SelRb0, SelRb1}
use Rattle.mcs48_core.specs.declared.levels.Pins.{Pins}
use Rattle.mcs48_core.specs.Cpu.{Cpu}
use Rattle.mcs48_core.specs.Status.{high_status}
use Rattle.mcs48_core.specs.Registers.{past, register, bank_start}
use Rattle.mcs48_core.specs.Moves.{move}
use Rattle.mcs48_core.specs.Arithmetic.{alu, unary}
use Rattle.mcs48_core.specs.Flow.{flow}
use Rattle.mcs48_core.specs.Ports.{port}
use Rattle.mcs48_core.specs.Control.{control}
use Rattle.mcs48_core.specs.Step.{effect}
use Rattle.cycle_cert.specs.Rows.{is_certifiable, writes}

-- a register that another one's write leaves
other_cell : (xs : List ℕ) (b r q v : ℕ) → (r == q) ≡ false → get_or (set xs (b + q) v) (b + r) 0 ≡ get_or xs (b + r) 0
other_cell xs b r q v e = let ne : b + r ≢ b + q = grind (arith, nat_tests, e) in rw get_or-set_other

-- the stack lies above the registers of bank 0
below_stack : (xs : List ℕ) (r s v w : ℕ) → r < 8 → get_or (set (set xs (8 + 2 * s) v) (9 + 2 * s) w) (0 + r) 0 ≡ get_or xs (0 + r) 0
below_stack xs r s v w h =
    let ne1 : 0 + r ≢ 8 + 2 * s = omega (arith, h) in
    let ne2 : 0 + r ≢ 9 + 2 * s = omega (arith, h) in
    rw (get_or-set_other, get_or-set_other)

move_keeps : (op : MoveOp) (bytes : List ℕ) (m : Cpu) (r : ℕ) → is_certifiable (Moves op) ≡ true → writes (Moves op) r ≡ false
    → register r (move op bytes m) ≡ register r m
move_keeps (MovRA q) bytes m r a w = other_cell m.ram (bank_start m.rb) r q m.a w
move_keeps (MovRN q n) bytes m r a w = other_cell m.ram (bank_start m.rb) r q n w
move_keeps (XchR q) bytes m r a w = other_cell m.ram (bank_start m.rb) r q m.a w
move_keeps (MovIA i) bytes m r a w = absurd cc
move_keeps (MovIN i n) bytes m r a w = absurd cc
move_keeps (XchI i) bytes m r a w = absurd cc
move_keeps (XchdI i) bytes m r a w = absurd cc
move_keeps MovPswA bytes m r a w = absurd cc
move_keeps op bytes m r a w = refl

alu_keeps : (op : AluOp) (m : Cpu) (r : ℕ) → register r (alu op m) ≡ register r m
alu_keeps (AddN n) m r = refl
alu_keeps op m r = refl

unary_keeps : (op : UnaryOp) (m : Cpu) (r : ℕ) → writes (Unary op) r ≡ false → register r (unary op m) ≡ register r m
unary_keeps (IncR q) m r w = other_cell m.ram (bank_start m.rb) r q ((register q m + 1) % 256) w
unary_keeps (DecR q) m r w = other_cell m.ram (bank_start m.rb) r q ((register q m + 255) % 256) w
unary_keeps (IncI i) m r w = absurd cc
unary_keeps op m r w = refl

flow_keeps : (op : FlowOp) (bytes : List ℕ) (pins : Pins) (m : Cpu) (r : ℕ) → is_certifiable (Flow op) ≡ true → r < 8
    → writes (Flow op) r ≡ false
    → register r (flow op bytes pins (record m { rb = false })) ≡ register r (record m { rb = false })
flow_keeps (Djnz q to) bytes pins m r a h w = other_cell m.ram 0 r q ((get_or m.ram (0 + q) 0 + 255) % 256) w
flow_keeps (Call to) bytes pins m r a h w =
    below_stack m.ram r m.sp ((past m).pc % 256) (16 * high_status (record m { rb = false }) + (past m).pc / 256) h
flow_keeps Ret bytes pins m r a h w = absurd cc
flow_keeps Retr bytes pins m r a h w = absurd cc
flow_keeps op bytes pins m r a h w = refl

port_keeps : (op : PortOp) (pins : Pins) (m : Cpu) (r : ℕ) → register r (port op pins m) ≡ register r m
port_keeps InP1 pins m r = refl
port_keeps op pins m r = refl

control_keeps : (op : ControlOp) (m : Cpu) (r : ℕ) → is_certifiable (Control op) ≡ true
    → register r (control op (record m { rb = false })) ≡ register r (record m { rb = false })
control_keeps SelRb0 m r a = refl
control_keeps SelRb1 m r a = absurd cc
control_keeps op m r a = refl

-- the state with bank 0, which it has
in_bank_0 : (m : Cpu) → m.rb ≡ false → m ≡ record m { rb = false }
in_bank_0 m e = ap (λ b. let n : Cpu = record m { rb = b } in n) e

-- a row that can't write a register leaves it
pub keeps : (op : Op) (bytes : List ℕ) (pins : Pins) (m : Cpu) (r : ℕ) → is_certifiable op ≡ true → m.rb ≡ false
    → r < 8 → writes op r ≡ false
    → register r (effect op bytes pins m) ≡ register r m
keeps (Moves op) bytes pins m r a b h w = move_keeps op bytes m r a w
keeps (Alu op) bytes pins m r a b h w = alu_keeps op m r
keeps (Unary op) bytes pins m r a b h w = unary_keeps op m r w
keeps (Flow op) bytes pins m r a b h w =
    let P : Cpu → Type 0 = λ n. register r (flow op bytes pins n) ≡ register r n in
    subst P (sym (in_bank_0 m b)) (flow_keeps op bytes pins m r a h w)
keeps (PortIo op) bytes pins m r a b h w = port_keeps op pins m r
keeps (Control op) bytes pins m r a b h w =
    let P : Cpu → Type 0 = λ n. register r (control op n) ≡ register r n in
    subst P (sym (in_bank_0 m b)) (control_keeps op m r a)
