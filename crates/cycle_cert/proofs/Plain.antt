-- A row that may be certified leaves bank 0 selected and both interrupts off, so that each step is an instruction.
use Rattle.std.proofs.Common.{◌≡◌, ℕ, List, Bool, true, false, not, ◌&&◌, Some, refl}
use Rattle.std.specs.declared.option.Option.{Option}
use Rattle.mcs48_isa.specs.declared.operation.Op.{Op}
use Rattle.mcs48_isa.specs.declared.operation.Op.TheVariants.{Moves, Alu, Unary, Flow, PortIo, Control}
use Rattle.mcs48_isa.specs.declared.operation.MoveOp.{MoveOp}
use Rattle.mcs48_isa.specs.declared.operation.MoveOp.TheVariants.{MovPswA}
use Rattle.mcs48_isa.specs.declared.operation.AluOp.{AluOp}
use Rattle.mcs48_isa.specs.declared.operation.AluOp.TheVariants.{AddN}
use Rattle.mcs48_isa.specs.declared.operation.UnaryOp.{UnaryOp}
use Rattle.mcs48_isa.specs.declared.operation.UnaryOp.TheVariants.{IncA}
use Rattle.mcs48_isa.specs.declared.operation.FlowOp.{FlowOp}
use Rattle.mcs48_isa.specs.declared.operation.FlowOp.TheVariants.{Retr}
use Rattle.mcs48_isa.specs.declared.operation.PortOp.{PortOp}
use Rattle.mcs48_isa.specs.declared.operation.PortOp.TheVariants.{AnlP1}
use Rattle.mcs48_isa.specs.declared.operation.ControlOp.{ControlOp}
use Rattle.mcs48_isa.specs.declared.operation.ControlOp.TheVariants.{EnI, DisI, EnTcnti, DisTcnti, SelRb0, SelRb1}
use Rattle.mcs48_core.specs.declared.levels.Pins.{Pins}
use Rattle.mcs48_core.specs.Cpu.{Cpu}
use Rattle.mcs48_core.specs.Moves.{move}
use Rattle.mcs48_core.specs.Arithmetic.{alu, unary}
use Rattle.mcs48_core.specs.Flow.{flow}
use Rattle.mcs48_core.specs.Ports.{port}
use Rattle.mcs48_core.specs.Control.{control}
use Rattle.mcs48_core.specs.Step.{entered, Stepped, effect, takes_external, takes_timer, row_at, executed, stepped}
use Rattle.cycle_cert.specs.Rows.{is_certifiable}
use Rattle.cycle_cert.specs.Runs.{IsPlain}

move_plain : (op : MoveOp) (bytes : List ℕ) (m : Cpu) → is_certifiable (Moves op) ≡ true → IsPlain m → IsPlain (move op bytes m)
move_plain MovPswA bytes m a h = absurd cc
move_plain op bytes m a h = h

alu_plain : (op : AluOp) (m : Cpu) → IsPlain m → IsPlain (alu op m)
alu_plain (AddN n) m h = h
alu_plain op m h = h

unary_plain : (op : UnaryOp) (m : Cpu) → IsPlain m → IsPlain (unary op m)
unary_plain IncA m h = h
unary_plain op m h = h

flow_plain : (op : FlowOp) (bytes : List ℕ) (pins : Pins) (m : Cpu) → is_certifiable (Flow op) ≡ true → IsPlain m
    → IsPlain (flow op bytes pins m)
flow_plain Retr bytes pins m a h = absurd cc
flow_plain op bytes pins m a h = h

port_plain : (op : PortOp) (pins : Pins) (m : Cpu) → IsPlain m → IsPlain (port op pins m)
port_plain (AnlP1 n) pins m h = h
port_plain op pins m h = h

control_plain : (op : ControlOp) (m : Cpu) → is_certifiable (Control op) ≡ true → IsPlain m → IsPlain (control op m)
control_plain EnI m a h = absurd cc
control_plain EnTcnti m a h = absurd cc
control_plain SelRb1 m a h = absurd cc
control_plain SelRb0 m a h = (refl, h.1, h.2)
control_plain DisI m a h = (h.0, refl, h.2)
control_plain DisTcnti m a h = (h.0, h.1, refl)
control_plain op m a h = h

-- an instruction that may be certified leaves bank 0 selected and both interrupts off
pub effect_plain : (op : Op) (bytes : List ℕ) (pins : Pins) (m : Cpu) → is_certifiable op ≡ true → IsPlain m
    → IsPlain (effect op bytes pins m)
effect_plain (Moves op) bytes pins m a h = move_plain op bytes m a h
effect_plain (Alu op) bytes pins m a h = alu_plain op m h
effect_plain (Unary op) bytes pins m a h = unary_plain op m h
effect_plain (Flow op) bytes pins m a h = flow_plain op bytes pins m a h
effect_plain (PortIo op) bytes pins m a h = port_plain op pins m h
effect_plain (Control op) bytes pins m a h = control_plain op m a h

masked : (a b : Bool) → (a && false && b) ≡ false
masked true b = refl
masked false b = refl

step_by : (bytes : List ℕ) (pins : Pins) (m : Cpu) (x y : Bool) → x ≡ false → y ≡ false
    → (elim x as (λ v. Option Stepped) [
      | true ↦ Some (entered 3 pins m)
      | false ↦ elim y as (λ v. Option Stepped)
          [ true ↦ Some (entered 7 pins (record m { rq = false })) | false ↦ executed (row_at bytes m.pc) bytes pins m ]
    ])
    ≡ executed (row_at bytes m.pc) bytes pins m
step_by bytes pins m true y e f = absurd cc
step_by bytes pins m false true e f = absurd cc
step_by bytes pins m false false e f = refl

-- no interrupt is taken
pub step_executes : (bytes : List ℕ) (pins : Pins) (m : Cpu) → IsPlain m → stepped bytes pins m ≡ executed (row_at bytes m.pc) bytes pins m
step_executes bytes pins m h =
    let external : takes_external pins m ≡ false = rw h.1 (masked (not m.svc) (not pins.int_pin)) in
    let timer : takes_timer m ≡ false = rw h.2 (masked (not m.svc) m.rq) in
    step_by bytes pins m (takes_external pins m) (takes_timer m) external timer
