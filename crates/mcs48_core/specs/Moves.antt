-- The data moves. The program counter is after the first byte.
use Rattle.std.specs.Prelude.{ℕ, ◌+◌, ◌*◌, ◌/◌, ◌%◌, List, slice_index}
use Rattle.mcs48_isa.specs.declared.operation.MoveOp.{MoveOp}
use Rattle.mcs48_isa.specs.declared.operation.MoveOp.TheVariants.{MovAN, MovAR, MovAI, MovRA, MovIA, MovRN, MovIN}
use Rattle.mcs48_isa.specs.declared.operation.MoveOp.TheVariants.{MovAPsw, MovPswA, MovAT, MovTA, XchR, XchI}
use Rattle.mcs48_isa.specs.declared.operation.MoveOp.TheVariants.{XchdI, Movp, Movp3, MovxAI, MovxIA}
use Rattle.mcs48_core.specs.Cpu.{Cpu}
use Rattle.mcs48_core.specs.Status.{psw_of, with_high_status}
use Rattle.mcs48_core.specs.Registers.{past, in_page, register, with_register, indirect, with_indirect}

-- the high digit of one byte with the low digit of another
abbrev pub digits_of : ℕ → ℕ → ℕ
digits_of high low = high / 16 * 16 + low % 16

-- one equation a row
abbrev pub move : MoveOp → List ℕ → Cpu → Cpu
move (MovAN n) bytes m = record (past m) { a = n }
move (MovAR r) bytes m = record m { a = register r m }
move (MovAI i) bytes m = record m { a = indirect i m }
move (MovRA r) bytes m = with_register r m.a m
move (MovIA i) bytes m = with_indirect i m.a m
move (MovRN r n) bytes m = with_register r n (past m)
move (MovIN i n) bytes m = with_indirect i n (past m)
move MovAPsw bytes m = record m { a = psw_of m }
move MovPswA bytes m = record (with_high_status m.a m) { sp = m.a % 8 }
move MovAT bytes m = record m { a = m.t }
move MovTA bytes m = record m { t = m.a }
move (XchR r) bytes m = record (with_register r m.a m) { a = register r m }
move (XchI i) bytes m = record (with_indirect i m.a m) { a = indirect i m }
move (XchdI i) bytes m = record (with_indirect i (digits_of (indirect i m) m.a) m) { a = digits_of m.a (indirect i m) }
-- MOVP reads in the page of the byte that follows it, MOVP3 in page 3
move Movp bytes m = record m { a = slice_index bytes (in_page m.pc m.a % 2048) }
move Movp3 bytes m = record m { a = slice_index bytes (768 + m.a) }
-- there is no external data memory
move (MovxAI i) bytes m = record m { a = 255 }
move (MovxIA i) bytes m = m
