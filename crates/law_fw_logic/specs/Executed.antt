-- What the kernel executes, and how it looks at the clock on a chip.
use Rattle.std.specs.Prelude.{◌≡◌, ◌≤◌, ◌<◌, ℕ, zero, suc, ◌+◌, ◌*◌, ◌/◌, Bool, true, false, not, ◌||◌, ◌==◌, nat_le}
use Rattle.std.specs.Prelude.{List, slice_index, Some, None}
use Rattle.std.specs.declared.option.Option.{Option}
use Rattle.mcs48_isa.specs.declared.operation.Op.{Op}
use Rattle.mcs48_isa.specs.declared.operation.Op.TheVariants.{Moves, Alu, Unary, Flow, PortIo, Control}
use Rattle.mcs48_isa.specs.declared.operation.MoveOp.TheVariants.{MovAN, MovAR, MovAI, MovRA, MovIA, MovRN, MovIN}
use Rattle.mcs48_isa.specs.declared.operation.MoveOp.TheVariants.{MovPswA, MovTA, XchR, XchI, Movp, Movp3}
use Rattle.mcs48_isa.specs.declared.operation.AluOp.TheVariants.{AddR, AddI, AddN, AnlR, AnlN, OrlR, OrlI, OrlN}
use Rattle.mcs48_isa.specs.declared.operation.AluOp.TheVariants.{XrlR, XrlI, XrlN}
use Rattle.mcs48_isa.specs.declared.operation.UnaryOp.TheVariants.{IncA, IncR, IncI, DecA, ClrA, CplA, SwapA}
use Rattle.mcs48_isa.specs.declared.operation.UnaryOp.TheVariants.{RlA, RlcA, RrA, RrcA, ClrC, CplC}
use Rattle.mcs48_isa.specs.declared.operation.UnaryOp.TheVariants.{ClrF0, CplF0, ClrF1, CplF1}
use Rattle.mcs48_isa.specs.declared.operation.FlowOp.TheVariants.{Jmp, Retr, Djnz, Jb, Jc, Jnc, Jz, Jnz}
use Rattle.mcs48_isa.specs.declared.operation.FlowOp.TheVariants.{Jt0, Jnt0, Jt1, Jnt1, Jf0, Jf1}
use Rattle.mcs48_isa.specs.declared.operation.PortOp.TheVariants.{InsBus, OutlP1, OutlP2, AnlP2, OrlP2}
use Rattle.mcs48_isa.specs.declared.operation.ControlOp.TheVariants.{Nop, DisI, EnTcnti, DisTcnti, SelRb0, SelRb1, SelMb0}
use Rattle.mcs48_isa.specs.declared.operation.ControlOp.TheVariants.{StrtT, StopTcnt}
use Rattle.mcs48_isa.specs.declared.operation.Decoded.{Decoded}
use Rattle.mcs48_core.specs.Cpu.{Cpu}
use Rattle.mcs48_core.specs.Step.{row_at}
use Rattle.fw_kernel.specs.declared.labels.TheConstants.{GOT, S_STOP, SCAN}
use Rattle.joint_run.specs.Run.{Board, World, run_at}

-- the kinds of row that the kernel has: none drives the bus, T0 or the port expander's pins, reads the pins of port 1 or
-- 2, reads the timer or tests its flag, enables the external interrupt, counts T1, leaves the lower half of the program,
-- or calls. The status is written at power-on alone
abbrev pub is_kernels : Op → Bool
is_kernels (Moves (MovAN n)) = true
is_kernels (Moves (MovAR r)) = true
is_kernels (Moves (MovAI i)) = true
is_kernels (Moves (MovRA r)) = true
is_kernels (Moves (MovIA i)) = true
is_kernels (Moves (MovRN r n)) = true
is_kernels (Moves (MovIN i n)) = true
is_kernels (Moves MovPswA) = true
is_kernels (Moves MovTA) = true
is_kernels (Moves (XchR r)) = true
is_kernels (Moves (XchI i)) = true
is_kernels (Moves Movp) = true
is_kernels (Moves Movp3) = true
is_kernels (Alu (AddR r)) = true
is_kernels (Alu (AddI i)) = true
is_kernels (Alu (AddN n)) = true
is_kernels (Alu (AnlR r)) = true
is_kernels (Alu (AnlN n)) = true
is_kernels (Alu (OrlR r)) = true
is_kernels (Alu (OrlI i)) = true
is_kernels (Alu (OrlN n)) = true
is_kernels (Alu (XrlR r)) = true
is_kernels (Alu (XrlI i)) = true
is_kernels (Alu (XrlN n)) = true
is_kernels (Unary IncA) = true
is_kernels (Unary (IncR r)) = true
is_kernels (Unary (IncI i)) = true
is_kernels (Unary DecA) = true
is_kernels (Unary ClrA) = true
is_kernels (Unary CplA) = true
is_kernels (Unary SwapA) = true
is_kernels (Unary RlA) = true
is_kernels (Unary RlcA) = true
is_kernels (Unary RrA) = true
is_kernels (Unary RrcA) = true
is_kernels (Unary ClrC) = true
is_kernels (Unary CplC) = true
is_kernels (Unary ClrF0) = true
is_kernels (Unary CplF0) = true
is_kernels (Unary ClrF1) = true
is_kernels (Unary CplF1) = true
is_kernels (Flow (Jmp to)) = true
is_kernels (Flow Retr) = true
is_kernels (Flow (Djnz r to)) = true
is_kernels (Flow (Jb b to)) = true
is_kernels (Flow (Jc to)) = true
is_kernels (Flow (Jnc to)) = true
is_kernels (Flow (Jz to)) = true
is_kernels (Flow (Jnz to)) = true
is_kernels (Flow (Jt0 to)) = true
is_kernels (Flow (Jnt0 to)) = true
is_kernels (Flow (Jt1 to)) = true
is_kernels (Flow (Jnt1 to)) = true
is_kernels (Flow (Jf0 to)) = true
is_kernels (Flow (Jf1 to)) = true
is_kernels (PortIo InsBus) = true
is_kernels (PortIo OutlP1) = true
is_kernels (PortIo OutlP2) = true
is_kernels (PortIo (AnlP2 n)) = true
is_kernels (PortIo (OrlP2 n)) = true
is_kernels (Control Nop) = true
is_kernels (Control DisI) = true
is_kernels (Control EnTcnti) = true
is_kernels (Control DisTcnti) = true
is_kernels (Control SelRb0) = true
is_kernels (Control SelRb1) = true
is_kernels (Control SelMb0) = true
is_kernels (Control StrtT) = true
is_kernels (Control StopTcnt) = true
is_kernels op = false

-- whether some byte of n from a place on isn't 0; a HEX text has the rows of sixteen places in which one isn't, so a
-- programmer may fill the other places with anything
abbrev pub holds_some : List ℕ → ℕ → ℕ → Bool
holds_some bytes place zero = false
holds_some bytes place (suc n) = not (slice_index bytes place == 0) || holds_some bytes (suc place) n

abbrev pub is_in_text : List ℕ → ℕ → Bool
is_in_text bytes place = holds_some bytes (16 * (place / 16)) 16

-- a processor whose next instruction is in the chip's own 2,048 bytes, in a row of the HEX text, and of the kernel's
-- kinds; one of the stack's eight entries is in use at most, and the clock's output is off
pub record IsFit (bytes : List ℕ) (m : Cpu) : Type 0 where
  pub place : m.pc < 2048
  pub text : is_in_text bytes m.pc ≡ true
  pub row : Decoded
  pub is : row_at bytes m.pc ≡ Some row
  pub allowed : is_kernels row.op ≡ true
  pub depth : m.sp ≤ 1
  pub silent : m.clk ≡ false

-- when a chip's port 2 changes in a row, and when the chip samples T0, in fifths of a cycle from the row's first cycle
-- (MCS-48, timing of instructions: OUTL writes at the end of its first cycle, ANL and ORL at the end of their second;
-- JT0 and JNT0 sample in the middle of their first)
abbrev pub puts_at : Op → Option ℕ
puts_at (PortIo OutlP2) = Some 5
puts_at (PortIo (AnlP2 n)) = Some 10
puts_at (PortIo (OrlP2 n)) = Some 10
puts_at op = None

abbrev pub looks_at : Op → Option ℕ
looks_at (Flow (Jt0 to)) = Some 2
looks_at (Flow (Jnt0 to)) = Some 2
looks_at op = None

-- a row that looks at the clock wire, next after one that puts port 2, samples at least 7 fifths of a cycle after the
-- chip has put it: 3.5 microseconds
abbrev pub is_late : ℕ → Option ℕ → Option ℕ → Bool
is_late cycles None look = true
is_late cycles (Some put) None = true
is_late cycles (Some put) (Some look) = nat_le (put + 7) (5 * cycles + look)

-- so it is of two processors, one a step after the other
abbrev pub LooksLate : List ℕ → Cpu → Cpu → Type 0
LooksLate bytes m n =
    (r q : Decoded) → row_at bytes m.pc ≡ Some r → row_at bytes n.pc ≡ Some q
    → is_late r.cycles (puts_at r.op) (looks_at q.op) ≡ true

-- whether the row that comes next looks at the clock wire
abbrev pub is_look : Option ℕ → Bool
is_look None = false
is_look (Some at) = true

abbrev pub row_looks : Option Decoded → Bool
row_looks None = false
row_looks (Some row) = is_look (looks_at row.op)

abbrev pub looks : List ℕ → Cpu → Bool
looks bytes m = row_looks (row_at bytes m.pc)

-- from these places on no byte is being sent: if one is received, at the eleventh fall, whose frame can't be broken off
-- any more, and in the rest of the tick
abbrev pub is_over : ℕ → Bool
is_over place = (place == GOT) || (place == S_STOP) || (place == SCAN)

-- from a look at the clock wire on at most 24 cycles pass, 60 microseconds, until the next one, as long as a byte is being
-- sent: in the run from it, if none of the states between looks, or is over
abbrev pub LooksSoon : (d : Board) → List ℕ → World d.State → Type 0
LooksSoon d bytes w =
    (n : ℕ) (v : World d.State) → run_at d bytes w (suc n) ≡ Some v
    → ((i : ℕ) (u : World d.State) → i < n → run_at d bytes w (suc i) ≡ Some u
    → (looks bytes u.cpu || is_over u.cpu.pc) ≡ false)
    → v.cycle ≤ w.cycle + 24
