-- An instruction by its group: a plain one leaves the timer alone, and a closed one lets no interrupt in.
use Rattle.std.proofs.Common.{◌≡◌, ℕ, List, true, refl, inl, inr}
use Rattle.mcs48_isa.specs.declared.operation.Op.{Op}
use Rattle.mcs48_isa.specs.declared.operation.Op.TheVariants.{Moves, Alu, Unary, Flow, PortIo, Control}
use Rattle.mcs48_isa.specs.declared.operation.MoveOp.{MoveOp}
use Rattle.mcs48_isa.specs.declared.operation.MoveOp.TheVariants.{MovTA}
use Rattle.mcs48_isa.specs.declared.operation.AluOp.{AluOp}
use Rattle.mcs48_isa.specs.declared.operation.AluOp.TheVariants.{AddN}
use Rattle.mcs48_isa.specs.declared.operation.UnaryOp.{UnaryOp}
use Rattle.mcs48_isa.specs.declared.operation.UnaryOp.TheVariants.{IncA}
use Rattle.mcs48_isa.specs.declared.operation.FlowOp.{FlowOp}
use Rattle.mcs48_isa.specs.declared.operation.FlowOp.TheVariants.{Retr, Jtf}
use Rattle.mcs48_isa.specs.declared.operation.PortOp.{PortOp}
use Rattle.mcs48_isa.specs.declared.operation.PortOp.TheVariants.{InsBus}
use Rattle.mcs48_isa.specs.declared.operation.ControlOp.{ControlOp}
use Rattle.mcs48_isa.specs.declared.operation.ControlOp.TheVariants.{DisI, EnI, EnTcnti, DisTcnti, StrtT, StrtCnt}
use Rattle.mcs48_isa.specs.declared.operation.ControlOp.TheVariants.{StopTcnt}
use Rattle.mcs48_core.specs.declared.levels.Pins.{Pins}
use Rattle.mcs48_core.specs.Cpu.{Cpu}
use Rattle.mcs48_core.specs.Moves.{move}
use Rattle.mcs48_core.specs.Arithmetic.{alu, unary}
use Rattle.mcs48_core.specs.Flow.{flow}
use Rattle.mcs48_core.specs.Ports.{port}
use Rattle.mcs48_core.specs.Control.{control}
use Rattle.mcs48_core.specs.Step.{effect}
use Rattle.law_fw_logic.proofs.TimerParts.{IsFree, is_closed, is_plain, timer_parts}

-- of each group, whether its plain instructions leave the timer alone; those that set it, or its flags, aren't plain
moves_timer : (op : MoveOp) (bytes : List ℕ) (m : Cpu) → is_plain (Moves op) ≡ true
    → timer_parts (move op bytes m) ≡ timer_parts m
moves_timer MovTA bytes m h = absurd cc
moves_timer op bytes m h = refl

alu_timer : (op : AluOp) (m : Cpu) → timer_parts (alu op m) ≡ timer_parts m
alu_timer (AddN n) m = refl
alu_timer op m = refl

unary_timer : (op : UnaryOp) (m : Cpu) → timer_parts (unary op m) ≡ timer_parts m
unary_timer IncA m = refl
unary_timer op m = refl

flow_timer : (op : FlowOp) (bytes : List ℕ) (pins : Pins) (m : Cpu) → is_plain (Flow op) ≡ true
    → timer_parts (flow op bytes pins m) ≡ timer_parts m
flow_timer Retr bytes pins m h = absurd cc
flow_timer (Jtf to) bytes pins m h = absurd cc
flow_timer op bytes pins m h = refl

port_timer : (op : PortOp) (pins : Pins) (m : Cpu) → timer_parts (port op pins m) ≡ timer_parts m
port_timer InsBus pins m = refl
port_timer op pins m = refl

control_timer : (op : ControlOp) (m : Cpu) → is_plain (Control op) ≡ true → timer_parts (control op m) ≡ timer_parts m
control_timer EnI m h = absurd cc
control_timer EnTcnti m h = absurd cc
control_timer DisTcnti m h = absurd cc
control_timer StrtT m h = absurd cc
control_timer StrtCnt m h = absurd cc
control_timer StopTcnt m h = absurd cc
control_timer op m h = refl

-- a plain instruction leaves the timer alone
pub effect_timer : (op : Op) (bytes : List ℕ) (pins : Pins) (m : Cpu) → is_plain op ≡ true
    → timer_parts (effect op bytes pins m) ≡ timer_parts m
effect_timer (Moves op) bytes pins m h = moves_timer op bytes m h
effect_timer (Alu op) bytes pins m h = alu_timer op m
effect_timer (Unary op) bytes pins m h = unary_timer op m
effect_timer (Flow op) bytes pins m h = flow_timer op bytes pins m h
effect_timer (PortIo op) bytes pins m h = port_timer op pins m
effect_timer (Control op) bytes pins m h = control_timer op m h

-- of each group, whether its closed instructions leave a processor that takes no interrupt so; those that let one in
-- aren't closed
moves_free : (op : MoveOp) (bytes : List ℕ) (m : Cpu) → IsFree m → IsFree (move op bytes m)
moves_free MovTA bytes m h = h
moves_free op bytes m h = h

alu_free : (op : AluOp) (m : Cpu) → IsFree m → IsFree (alu op m)
alu_free (AddN n) m h = h
alu_free op m h = h

unary_free : (op : UnaryOp) (m : Cpu) → IsFree m → IsFree (unary op m)
unary_free IncA m h = h
unary_free op m h = h

flow_free : (op : FlowOp) (bytes : List ℕ) (pins : Pins) (m : Cpu) → is_closed (Flow op) ≡ true → IsFree m
    → IsFree (flow op bytes pins m)
flow_free Retr bytes pins m c h = absurd cc
flow_free op bytes pins m c h = h

port_free : (op : PortOp) (pins : Pins) (m : Cpu) → IsFree m → IsFree (port op pins m)
port_free InsBus pins m h = h
port_free op pins m h = h

control_free : (op : ControlOp) (m : Cpu) → is_closed (Control op) ≡ true → IsFree m → IsFree (control op m)
control_free EnI m c h = absurd cc
control_free EnTcnti m c h = absurd cc
control_free DisI m c (inl h) = inl h
control_free DisI m c (inr h) = inr (refl, h.1)
control_free DisTcnti m c (inl h) = inl h
control_free DisTcnti m c (inr h) = inr (h.0, refl)
control_free op m c h = h

-- an instruction lets no interrupt in
pub effect_free : (op : Op) (bytes : List ℕ) (pins : Pins) (m : Cpu) → is_closed op ≡ true → IsFree m
    → IsFree (effect op bytes pins m)
effect_free (Moves op) bytes pins m c h = moves_free op bytes m h
effect_free (Alu op) bytes pins m c h = alu_free op m h
effect_free (Unary op) bytes pins m c h = unary_free op m h
effect_free (Flow op) bytes pins m c h = flow_free op bytes pins m c h
effect_free (PortIo op) bytes pins m c h = port_free op pins m h
effect_free (Control op) bytes pins m c h = control_free op m c h

-- a plain instruction is closed too
plain_moves : (op : MoveOp) → is_plain (Moves op) ≡ true → is_closed (Moves op) ≡ true
plain_moves MovTA h = refl
plain_moves op h = refl

plain_flow : (op : FlowOp) → is_plain (Flow op) ≡ true → is_closed (Flow op) ≡ true
plain_flow Retr h = absurd cc
plain_flow op h = refl

plain_control : (op : ControlOp) → is_plain (Control op) ≡ true → is_closed (Control op) ≡ true
plain_control EnI h = absurd cc
plain_control EnTcnti h = absurd cc
plain_control op h = refl

-- an instruction that leaves the timer alone lets no interrupt in either
pub plain_closed : (op : Op) → is_plain op ≡ true → is_closed op ≡ true
plain_closed (Moves op) h = plain_moves op h
plain_closed (Alu op) h = refl
plain_closed (Unary op) h = refl
plain_closed (Flow op) h = plain_flow op h
plain_closed (PortIo op) h = refl
plain_closed (Control op) h = plain_control op h
