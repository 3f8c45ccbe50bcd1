-- Jumps, ports and control leave bytes bytes, and so does every operation.
use Rattle.std.proofs.Common.{◌≡◌, ◌≤◌, ◌<◌, ℕ, ◌+◌, ◌*◌, ◌/◌, ◌%◌, List, Bool, true, false, not, ◌==◌, bit_and}
use Rattle.std.proofs.Common.{bit_or, All, get_or, set, arith}
use Rattle.std.proofs.lemmas.Nat.{or_of_8}
use Rattle.mcs48_isa.specs.declared.operation.Op.{Op}
use Rattle.mcs48_isa.specs.declared.operation.Op.TheVariants.{Moves, Alu, Unary, Flow, PortIo, Control}
use Rattle.mcs48_core.specs.declared.levels.Pins.{Pins}
use Rattle.mcs48_core.specs.Cpu.{Cpu}
use Rattle.bits.specs.Bits.{bit}
use Rattle.mcs48_core.specs.Status.{high_status}
use Rattle.mcs48_core.specs.Registers.{past, register, with_register, bank_start}
use Rattle.mcs48_isa.specs.declared.operation.FlowOp.{FlowOp}
use Rattle.mcs48_isa.specs.declared.operation.FlowOp.TheVariants.{Jmp, Call, Ret, Retr, Jmpp, Djnz, Jb, Jc, Jnc, Jz}
use Rattle.mcs48_isa.specs.declared.operation.FlowOp.TheVariants.{Jnz, Jt0, Jnt0, Jt1, Jnt1, Jf0, Jf1, Jtf, Jni}
use Rattle.mcs48_isa.specs.declared.operation.PortOp.{PortOp}
use Rattle.mcs48_isa.specs.declared.operation.PortOp.TheVariants.{InP1, InP2, InsBus, OutlP1, OutlP2, OutlBus, AnlP1}
use Rattle.mcs48_isa.specs.declared.operation.PortOp.TheVariants.{AnlP2, AnlBus, OrlP1, OrlP2, OrlBus, MovdAP}
use Rattle.mcs48_isa.specs.declared.operation.PortOp.TheVariants.{MovdPA, OrldPA, AnldPA}
use Rattle.mcs48_isa.specs.declared.operation.ControlOp.{ControlOp}
use Rattle.mcs48_isa.specs.declared.operation.ControlOp.TheVariants.{Nop, StrtT}
use Rattle.mcs48_core.specs.Registers.{in_page}
use Rattle.mcs48_core.specs.Flow.{flow, branch, bank_bit, pushed, popped, popped_high, returned}
use Rattle.mcs48_core.specs.Ports.{port}
use Rattle.mcs48_core.specs.Control.{control}
use Rattle.mcs48_core.specs.Step.{effect}
use Rattle.mcs48_ranges.specs.Sizes.{IsByte, IsFine, IsFinePins}
use Rattle.mcs48_ranges.proofs.Operands.{small, small_flow, small_port}
use Rattle.mcs48_ranges.proofs.Parts.{read_byte, status_small, with_a, with_pc, with_cell, with_sp, past_fine, lt_of}
use Rattle.mcs48_ranges.proofs.Parts.{and_byte}
use Rattle.mcs48_ranges.proofs.Moves.{alu_fine, unary_fine, move_fine}

-- a place in the counter's page is in the 4,096 places of the program
pub page_fine : (m : Cpu) (n : ℕ) → n < 256 → IsFine m → in_page m.pc n < 4096
page_fine m n l h = let k : m.pc < 4096 = h.pc in omega (arith, l, k)

-- a jump within the page, made or not, keeps all ranges
pub branch_fine : (c : Bool) (m : Cpu) (n : ℕ) → n < 256 → IsFine m → IsFine (branch c n m)
branch_fine true m n l h = with_pc m (in_page m.pc n) (page_fine m n l h) h
branch_fine false m n l h = past_fine m h

-- the bit of the memory bank is 0 or 1
pub bank_small : (m : Cpu) (mb svc : Bool) → bank_bit (record m { mb = mb; svc = svc }) ≤ 1
bank_small m false svc = omega arith
bank_small m true true = omega arith
bank_small m true false = omega arith

-- a far jump goes to a place of the program's 4,096
pub far_fine : (m : Cpu) (to : ℕ) → to < 2048 → 2048 * bank_bit m + to < 4096
far_fine m to l = let k : bank_bit m ≤ 1 = bank_small m m.mb m.svc in omega (arith, l, k)

-- to push the counter and the status keeps all ranges
pub pushed_fine : (m : Cpu) → IsFine m → IsFine (pushed m)
pushed_fine m h =
    let s : high_status m < 16 = status_small m in
    let l : m.pc < 4096 = h.pc in
    let high : 16 * high_status m + m.pc / 256 < 256 = omega (arith, s, l) in
    let one = with_cell m (8 + 2 * m.sp) (m.pc % 256) (omega arith) h in
    let ram = set m.ram (8 + 2 * m.sp) (m.pc % 256) in
    let two = with_cell (record m { ram = ram }) (9 + 2 * m.sp) (16 * high_status m + m.pc / 256) high one in
    with_sp (record m { ram = set ram (9 + 2 * m.sp) (16 * high_status m + m.pc / 256) }) ((m.sp + 1) % 8) (omega arith) two

-- to return keeps all ranges
pub returned_fine : (m : Cpu) → IsFine m → IsFine (returned m)
returned_fine m h =
    let low : get_or m.ram (8 + 2 * popped m) 0 < 256 = read_byte m.ram (8 + 2 * popped m) h.ram in
    with_pc (record m { sp = popped m }) (popped_high m % 16 * 256 + get_or m.ram (8 + 2 * popped m) 0)
    (omega (arith, low)) (with_sp m (popped m) (omega arith) h)

-- each operation that jumps, calls or returns keeps all ranges
pub flow_fine : (op : FlowOp) (bytes : List ℕ) (pins : Pins) (m : Cpu) → All IsByte bytes → small_flow op ≡ true
    → IsFine m → IsFine (flow op bytes pins m)
flow_fine (Jmp to) bytes pins m b s h = with_pc m (2048 * bank_bit m + to) (far_fine m to (lt_of to 2048 s)) h
flow_fine (Call to) bytes pins m b s h =
    with_pc (pushed (past m)) (2048 * bank_bit m + to) (far_fine m to (lt_of to 2048 s))
    (pushed_fine (past m) (past_fine m h))
flow_fine Ret bytes pins m b s h = returned_fine m h
flow_fine Retr bytes pins m b s h = returned_fine m h
flow_fine Jmpp bytes pins m b s h =
    with_pc m (in_page m.pc (get_or bytes (in_page m.pc m.a % 2048) 0))
    (page_fine m (get_or bytes (in_page m.pc m.a % 2048) 0) (read_byte bytes (in_page m.pc m.a % 2048) b) h) h
flow_fine (Djnz r to) bytes pins m b s h =
    branch_fine (not ((register r m + 255) % 256 == 0)) (with_register r ((register r m + 255) % 256) m) to (lt_of to 256 s)
    (with_cell m (bank_start m.rb + r) ((register r m + 255) % 256) (omega arith) h)
flow_fine (Jb k to) bytes pins m b s h = branch_fine (bit k m.a) m to (lt_of to 256 s) h
flow_fine (Jc to) bytes pins m b s h = branch_fine m.c m to (lt_of to 256 s) h
flow_fine (Jnc to) bytes pins m b s h = branch_fine (not m.c) m to (lt_of to 256 s) h
flow_fine (Jz to) bytes pins m b s h = branch_fine (m.a == 0) m to (lt_of to 256 s) h
flow_fine (Jnz to) bytes pins m b s h = branch_fine (not (m.a == 0)) m to (lt_of to 256 s) h
flow_fine (Jt0 to) bytes pins m b s h = branch_fine pins.t0 m to (lt_of to 256 s) h
flow_fine (Jnt0 to) bytes pins m b s h = branch_fine (not pins.t0) m to (lt_of to 256 s) h
flow_fine (Jt1 to) bytes pins m b s h = branch_fine pins.t1 m to (lt_of to 256 s) h
flow_fine (Jnt1 to) bytes pins m b s h = branch_fine (not pins.t1) m to (lt_of to 256 s) h
flow_fine (Jf0 to) bytes pins m b s h = branch_fine m.f0 m to (lt_of to 256 s) h
flow_fine (Jf1 to) bytes pins m b s h = branch_fine m.f1 m to (lt_of to 256 s) h
flow_fine (Jtf to) bytes pins m b s h = branch_fine m.tf m to (lt_of to 256 s) h
flow_fine (Jni to) bytes pins m b s h = branch_fine (not pins.int_pin) m to (lt_of to 256 s) h

-- bytes in the three port latches keep all ranges
pub with_ports : (m : Cpu) (x y z : ℕ) → x < 256 → y < 256 → z < 256 → IsFine m
    → IsFine (record m { p1 = x; p2 = y; bus = z })
with_ports m x y z a b c h =
    record { pc = h.pc; a = h.a; ram = h.ram; long = h.long; t = h.t; pre = h.pre; p1 = a; p2 = b; bus = c; sp = h.sp }

-- each operation of a port keeps all ranges
pub port_fine : (op : PortOp) (pins : Pins) (m : Cpu) → IsFinePins pins → small_port op ≡ true → IsFine m
    → IsFine (port op pins m)
port_fine InP1 pins m p s h = with_a m (bit_and m.p1 pins.p1) (and_byte m.p1 pins.p1 h.p1) h
port_fine InP2 pins m p s h = with_a m (bit_and m.p2 pins.p2) (and_byte m.p2 pins.p2 h.p2) h
port_fine InsBus pins m p s h = with_a m pins.bus p h
port_fine OutlP1 pins m p s h = with_ports m m.a m.p2 m.bus h.a h.p2 h.bus h
port_fine OutlP2 pins m p s h = with_ports m m.p1 m.a m.bus h.p1 h.a h.bus h
port_fine OutlBus pins m p s h = with_ports m m.p1 m.p2 m.a h.p1 h.p2 h.a h
port_fine (AnlP1 n) pins m p s h =
    with_ports (past m) (bit_and m.p1 n) m.p2 m.bus (and_byte m.p1 n h.p1) h.p2 h.bus (past_fine m h)
port_fine (AnlP2 n) pins m p s h =
    with_ports (past m) m.p1 (bit_and m.p2 n) m.bus h.p1 (and_byte m.p2 n h.p2) h.bus (past_fine m h)
port_fine (AnlBus n) pins m p s h =
    with_ports (past m) m.p1 m.p2 (bit_and m.bus n) h.p1 h.p2 (and_byte m.bus n h.bus) (past_fine m h)
port_fine (OrlP1 n) pins m p s h =
    with_ports (past m) (bit_or m.p1 n) m.p2 m.bus (or_of_8 m.p1 n h.p1 (lt_of n 256 s)) h.p2 h.bus (past_fine m h)
port_fine (OrlP2 n) pins m p s h =
    with_ports (past m) m.p1 (bit_or m.p2 n) m.bus h.p1 (or_of_8 m.p2 n h.p2 (lt_of n 256 s)) h.bus (past_fine m h)
port_fine (OrlBus n) pins m p s h =
    with_ports (past m) m.p1 m.p2 (bit_or m.bus n) h.p1 h.p2 (or_of_8 m.bus n h.bus (lt_of n 256 s)) (past_fine m h)
port_fine (MovdAP k) pins m p s h = with_a m 15 (omega arith) h
port_fine (MovdPA k) pins m p s h = h
port_fine (OrldPA k) pins m p s h = h
port_fine (AnldPA k) pins m p s h = h

-- each operation of control keeps all ranges
pub control_fine : (op : ControlOp) (m : Cpu) → IsFine m → IsFine (control op m)
control_fine Nop m h = h
control_fine StrtT m h =
    record { pc = h.pc; a = h.a; ram = h.ram; long = h.long; t = h.t; pre = omega arith; p1 = h.p1; p2 = h.p2; bus = h.bus; sp = h.sp }
control_fine op m h = h

-- each operation keeps all ranges
pub effect_fine : (op : Op) (bytes : List ℕ) (pins : Pins) (m : Cpu) → All IsByte bytes → IsFinePins pins
    → small op ≡ true → IsFine m → IsFine (effect op bytes pins m)
effect_fine (Moves op) bytes pins m b p s h = move_fine op bytes m b s h
effect_fine (Alu op) bytes pins m b p s h = alu_fine op m s h
effect_fine (Unary op) bytes pins m b p s h = unary_fine op m h
effect_fine (Flow op) bytes pins m b p s h = flow_fine op bytes pins m b s h
effect_fine (PortIo op) bytes pins m b p s h = port_fine op pins m p s h
effect_fine (Control op) bytes pins m b p s h = control_fine op m h
