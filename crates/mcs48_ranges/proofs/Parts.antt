-- The parts of a processor in their ranges, one at a time.
use Rattle.std.proofs.Common.{◌≡◌, ◌≤◌, ◌<◌, ℕ, ◌+◌, ◌%◌, List, Bool, true, false, ltb}
use Rattle.std.proofs.Common.{bit_and, All, length, get_or, set, refl, ◌∙◌, arith}
use Rattle.std.proofs.lemmas.Bool.Decides.{nat_tests}
use Rattle.std.proofs.lemmas.List.{length-set, get_or_past}
use Rattle.std.proofs.lemmas.List.Elements.{All-set, All-get_or}
use Rattle.std.proofs.lemmas.Grind.{widths}
use Rattle.mcs48_core.specs.Cpu.{Cpu}
use Rattle.mcs48_core.specs.Status.{digit, high_status, psw_of}
use Rattle.mcs48_core.specs.Registers.{past, counted, register, indirect, bank_start}
use Rattle.mcs48_core.specs.Moves.{digits_of}
use Rattle.mcs48_ranges.specs.Sizes.{IsByte, IsFine}

read_by : (xs : List ℕ) (i : ℕ) → All IsByte xs → (b : Bool) → ltb i (length xs) ≡ b → get_or xs i 0 < 256
read_by xs i h true e = All-get_or IsByte xs i 0 (grind (arith, nat_tests, e)) h
read_by xs i h false e =
    let none : get_or xs i 0 ≡ 0 = get_or_past xs i 0 (grind (arith, nat_tests, e)) in omega (arith, none)

-- a read of a list of bytes is a byte, also past its end
pub read_byte : (xs : List ℕ) (i : ℕ) → All IsByte xs → get_or xs i 0 < 256
read_byte xs i h = read_by xs i h (ltb i (length xs)) refl

-- a bit as a number is 0 or 1
pub digit_small : (b : Bool) → digit b ≤ 1
digit_small true = omega arith
digit_small false = omega arith

-- the upper half of the status that is pushed has four bits
pub status_small : (m : Cpu) → high_status m < 16
status_small m =
    let a : digit m.c ≤ 1 = digit_small m.c in
    let b : digit m.ac ≤ 1 = digit_small m.ac in
    let c : digit m.f0 ≤ 1 = digit_small m.f0 in
    let d : digit m.rb ≤ 1 = digit_small m.rb in
    omega (arith, a, b, c, d)

-- a byte in A keeps all ranges
pub with_a : (m : Cpu) (v : ℕ) → v < 256 → IsFine m → IsFine (record m { a = v })
with_a m v l h =
    record { pc = h.pc; a = l; ram = h.ram; long = h.long; t = h.t; pre = h.pre; p1 = h.p1; p2 = h.p2; bus = h.bus; sp = h.sp }

-- a place of the program in the counter keeps all ranges
pub with_pc : (m : Cpu) (v : ℕ) → v < 4096 → IsFine m → IsFine (record m { pc = v })
with_pc m v l h =
    record { pc = l; a = h.a; ram = h.ram; long = h.long; t = h.t; pre = h.pre; p1 = h.p1; p2 = h.p2; bus = h.bus; sp = h.sp }

-- a byte written to a cell of data memory keeps all ranges
pub with_cell : (m : Cpu) (i v : ℕ) → v < 256 → IsFine m → IsFine (record m { ram = set m.ram i v })
with_cell m i v l h =
    record {
      pc = h.pc;
      a = h.a;
      ram = All-set IsByte m.ram i v l h.ram;
      long = length-set m.ram i v
          ∙ h.long;
      t = h.t;
      pre = h.pre;
      p1 = h.p1;
      p2 = h.p2;
      bus = h.bus;
      sp = h.sp;
    }

-- a stack pointer of three bits keeps all ranges
pub with_sp : (m : Cpu) (v : ℕ) → v < 8 → IsFine m → IsFine (record m { sp = v })
with_sp m v l h =
    record { pc = h.pc; a = h.a; ram = h.ram; long = h.long; t = h.t; pre = h.pre; p1 = h.p1; p2 = h.p2; bus = h.bus; sp = l }

-- the counter after a byte of the program keeps all ranges
pub past_fine : (m : Cpu) → IsFine m → IsFine (past m)
past_fine m h = let l : m.pc < 4096 = h.pc in with_pc m (counted m.pc) (omega (arith, l)) h

-- a register has a byte
pub register_byte : (r : ℕ) (m : Cpu) → IsFine m → register r m < 256
register_byte r m h = read_byte m.ram (bank_start m.rb + r) h.ram

-- the cell to which a register points has a byte
pub indirect_byte : (i : ℕ) (m : Cpu) → IsFine m → indirect i m < 256
indirect_byte i m h = read_byte m.ram (register i m % 128) h.ram

-- a number that the test finds smaller is smaller
pub lt_of : (n k : ℕ) → ltb n k ≡ true → n < k
lt_of n k h = grind (arith, nat_tests, h)

-- two digits, each taken as four bits, make a byte
pub digits_byte : (x y : ℕ) → x < 256 → digits_of x y < 256
digits_byte x y l = omega (arith, l)

-- the program status word is a byte
pub psw_byte : (m : Cpu) → m.sp < 8 → psw_of m < 256
psw_byte m l = let s : high_status m < 16 = status_small m in omega (arith, s, l)

-- the and of two bytes is a byte
pub and_byte : (a b : ℕ) → a < 256 → bit_and a b < 256
and_byte a b l = grind (arith, widths, l)
