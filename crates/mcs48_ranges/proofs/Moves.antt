-- The operations of A, registers and data leave bytes bytes.
use Rattle.std.proofs.Common.{◌≡◌, ◌≤◌, ◌<◌, ℕ, ◌+◌, ◌-◌, ◌*◌, ◌/◌, ◌%◌, List, true, if◌then◌else◌}
use Rattle.std.proofs.Common.{bit_and, bit_or, bit_xor, All, get_or, arith}
use Rattle.std.proofs.lemmas.Nat.{or_of_8, xor_of_8}
use Rattle.mcs48_isa.specs.declared.operation.MoveOp.{MoveOp}
use Rattle.mcs48_isa.specs.declared.operation.MoveOp.TheVariants.{MovAN, MovAR, MovAI, MovRA, MovIA, MovRN, MovIN}
use Rattle.mcs48_isa.specs.declared.operation.MoveOp.TheVariants.{MovAPsw, MovPswA, MovAT, MovTA, XchR, XchI, XchdI}
use Rattle.mcs48_isa.specs.declared.operation.MoveOp.TheVariants.{Movp, Movp3, MovxAI, MovxIA}
use Rattle.mcs48_isa.specs.declared.operation.AluOp.{AluOp}
use Rattle.mcs48_isa.specs.declared.operation.AluOp.TheVariants.{AddR, AddI, AddN, AddcR, AddcI, AddcN, AnlR, AnlI}
use Rattle.mcs48_isa.specs.declared.operation.AluOp.TheVariants.{AnlN, OrlR, OrlI, OrlN, XrlR, XrlI, XrlN}
use Rattle.mcs48_isa.specs.declared.operation.UnaryOp.{UnaryOp}
use Rattle.mcs48_isa.specs.declared.operation.UnaryOp.TheVariants.{IncA, IncR, IncI, DecA, DecR, ClrA, CplA, DaA}
use Rattle.mcs48_isa.specs.declared.operation.UnaryOp.TheVariants.{SwapA, RlA, RlcA, RrA, RrcA, ClrC, CplC, ClrF0}
use Rattle.mcs48_isa.specs.declared.operation.UnaryOp.TheVariants.{CplF0, ClrF1, CplF1}
use Rattle.mcs48_core.specs.Cpu.{Cpu}
use Rattle.bits.specs.Bits.{bit}
use Rattle.mcs48_core.specs.Status.{digit, psw_of}
use Rattle.mcs48_core.specs.Registers.{past, register, with_register, indirect, with_indirect, bank_start}
use Rattle.mcs48_core.specs.Moves.{move, digits_of}
use Rattle.mcs48_core.specs.Arithmetic.{alu, unary, low_adjusted, adjusts_high}
use Rattle.mcs48_core.specs.Registers.{in_page}
use Rattle.mcs48_ranges.specs.Sizes.{IsByte, IsFine}
use Rattle.mcs48_ranges.proofs.Operands.{small_move, small_alu}
use Rattle.mcs48_ranges.proofs.Parts.{read_byte, digit_small, with_a, with_cell, with_sp, past_fine, register_byte, indirect_byte}
use Rattle.mcs48_ranges.proofs.Parts.{lt_of, digits_byte, psw_byte, and_byte}

-- each sum and each logical operation on A keeps all ranges
pub alu_fine : (op : AluOp) (m : Cpu) → small_alu op ≡ true → IsFine m → IsFine (alu op m)
alu_fine (AddR r) m s h = with_a m ((m.a + register r m) % 256) (omega arith) h
alu_fine (AddI i) m s h = with_a m ((m.a + indirect i m) % 256) (omega arith) h
alu_fine (AddN n) m s h = with_a (past m) ((m.a + n) % 256) (omega arith) (past_fine m h)
alu_fine (AddcR r) m s h = with_a m ((m.a + register r m + digit m.c) % 256) (omega arith) h
alu_fine (AddcI i) m s h = with_a m ((m.a + indirect i m + digit m.c) % 256) (omega arith) h
alu_fine (AddcN n) m s h = with_a (past m) ((m.a + n + digit m.c) % 256) (omega arith) (past_fine m h)
alu_fine (AnlR r) m s h = with_a m (bit_and m.a (register r m)) (and_byte m.a (register r m) h.a) h
alu_fine (AnlI i) m s h = with_a m (bit_and m.a (indirect i m)) (and_byte m.a (indirect i m) h.a) h
alu_fine (AnlN n) m s h = with_a (past m) (bit_and m.a n) (and_byte m.a n h.a) (past_fine m h)
alu_fine (OrlR r) m s h = with_a m (bit_or m.a (register r m)) (or_of_8 m.a (register r m) h.a (register_byte r m h)) h
alu_fine (OrlI i) m s h = with_a m (bit_or m.a (indirect i m)) (or_of_8 m.a (indirect i m) h.a (indirect_byte i m h)) h
alu_fine (OrlN n) m s h = with_a (past m) (bit_or m.a n) (or_of_8 m.a n h.a (lt_of n 256 s)) (past_fine m h)
alu_fine (XrlR r) m s h = with_a m (bit_xor m.a (register r m)) (xor_of_8 m.a (register r m) h.a (register_byte r m h)) h
alu_fine (XrlI i) m s h = with_a m (bit_xor m.a (indirect i m)) (xor_of_8 m.a (indirect i m) h.a (indirect_byte i m h)) h
alu_fine (XrlN n) m s h = with_a (past m) (bit_xor m.a n) (xor_of_8 m.a n h.a (lt_of n 256 s)) (past_fine m h)

-- each operation of one operand keeps all ranges
pub unary_fine : (op : UnaryOp) (m : Cpu) → IsFine m → IsFine (unary op m)
unary_fine IncA m h = with_a m ((m.a + 1) % 256) (omega arith) h
unary_fine (IncR r) m h = with_cell m (bank_start m.rb + r) ((register r m + 1) % 256) (omega arith) h
unary_fine (IncI i) m h = with_cell m (register i m % 128) ((indirect i m + 1) % 256) (omega arith) h
unary_fine DecA m h = with_a m ((m.a + 255) % 256) (omega arith) h
unary_fine (DecR r) m h = with_cell m (bank_start m.rb + r) ((register r m + 255) % 256) (omega arith) h
unary_fine ClrA m h = with_a m 0 (omega arith) h
unary_fine CplA m h = with_a m (255 - m.a) (omega arith) h
unary_fine DaA m h = with_a m ((low_adjusted m + (if adjusts_high m then 96 else 0)) % 256) (omega arith) h
unary_fine SwapA m h = let l : m.a < 256 = h.a in with_a m (m.a % 16 * 16 + m.a / 16) (omega (arith, l)) h
unary_fine RlA m h = with_a m ((2 * m.a + digit (bit 7 m.a)) % 256) (omega arith) h
unary_fine RlcA m h = with_a m ((2 * m.a + digit m.c) % 256) (omega arith) h
unary_fine RrA m h =
    let l : m.a < 256 = h.a in let d : digit (bit 0 m.a) ≤ 1 = digit_small (bit 0 m.a) in with_a m
    (128 * digit (bit 0 m.a) + m.a / 2) (omega (arith, l, d)) h
unary_fine RrcA m h =
    let l : m.a < 256 = h.a in let d : digit m.c ≤ 1 = digit_small m.c in with_a m (128 * digit m.c + m.a / 2)
    (omega (arith, l, d)) h
unary_fine ClrC m h = with_a m m.a h.a h
unary_fine CplC m h = with_a m m.a h.a h
unary_fine ClrF0 m h = with_a m m.a h.a h
unary_fine CplF0 m h = with_a m m.a h.a h
unary_fine ClrF1 m h = with_a m m.a h.a h
unary_fine CplF1 m h = with_a m m.a h.a h

-- each move keeps all ranges
pub move_fine : (op : MoveOp) (bytes : List ℕ) (m : Cpu) → All IsByte bytes → small_move op ≡ true → IsFine m
    → IsFine (move op bytes m)
move_fine (MovAN n) bytes m b s h = with_a (past m) n (lt_of n 256 s) (past_fine m h)
move_fine (MovAR r) bytes m b s h = with_a m (register r m) (register_byte r m h) h
move_fine (MovAI i) bytes m b s h = with_a m (indirect i m) (indirect_byte i m h) h
move_fine (MovRA r) bytes m b s h = with_cell m (bank_start m.rb + r) m.a h.a h
move_fine (MovIA i) bytes m b s h = with_cell m (register i m % 128) m.a h.a h
move_fine (MovRN r n) bytes m b s h = with_cell (past m) (bank_start m.rb + r) n (lt_of n 256 s) (past_fine m h)
move_fine (MovIN i n) bytes m b s h = with_cell (past m) (register i m % 128) n (lt_of n 256 s) (past_fine m h)
move_fine MovAPsw bytes m b s h = with_a m (psw_of m) (psw_byte m h.sp) h
move_fine MovPswA bytes m b s h = with_sp m (m.a % 8) (omega arith) h
move_fine MovAT bytes m b s h = with_a m m.t h.t h
move_fine MovTA bytes m b s h =
    record { pc = h.pc; a = h.a; ram = h.ram; long = h.long; t = h.a; pre = h.pre; p1 = h.p1; p2 = h.p2; bus = h.bus; sp = h.sp }
move_fine (XchR r) bytes m b s h =
    with_a (with_register r m.a m) (register r m) (register_byte r m h) (with_cell m (bank_start m.rb + r) m.a h.a h)
move_fine (XchI i) bytes m b s h =
    with_a (with_indirect i m.a m) (indirect i m) (indirect_byte i m h) (with_cell m (register i m % 128) m.a h.a h)
move_fine (XchdI i) bytes m b s h =
    with_a (with_indirect i (digits_of (indirect i m) m.a) m) (digits_of m.a (indirect i m))
    (digits_byte m.a (indirect i m) h.a)
    (with_cell m (register i m % 128) (digits_of (indirect i m) m.a) (digits_byte (indirect i m) m.a (indirect_byte i m h)) h)
move_fine Movp bytes m b s h =
    with_a m (get_or bytes (in_page m.pc m.a % 2048) 0) (read_byte bytes (in_page m.pc m.a % 2048) b) h
move_fine Movp3 bytes m b s h = with_a m (get_or bytes (768 + m.a) 0) (read_byte bytes (768 + m.a) b) h
move_fine (MovxAI i) bytes m b s h = with_a m 255 (omega arith) h
move_fine (MovxIA i) bytes m b s h = h
