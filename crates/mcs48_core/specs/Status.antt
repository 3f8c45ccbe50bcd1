-- The status byte PSW: its flags, its bank bit and its stack pointer.
use Rattle.std.specs.Prelude.{◌≡◌, ℕ, ◌+◌, ◌*◌, ◌/◌, ◌%◌, Bool, true, false}
use Rattle.bits.specs.Bits.{bit}
use Rattle.mcs48_core.specs.Cpu.{Cpu}

-- a truth value as a digit
abbrev pub digit : Bool → ℕ
digit true = 1
digit false = 0

-- the high four bits: carry, half carry, flag 0, bank
abbrev pub high_status : Cpu → ℕ
high_status m = 8 * digit m.c + 4 * digit m.ac + 2 * digit m.f0 + digit m.rb

-- the status byte; its bit 3 reads 1
abbrev pub psw_of : Cpu → ℕ
psw_of m = 16 * high_status m + 8 + m.sp

-- the flags and the bank from the high four bits of a byte
abbrev pub with_high_status : ℕ → Cpu → Cpu
with_high_status x m = record m { c = bit 7 x; ac = bit 6 x; f0 = bit 5 x; rb = bit 4 x }

-- the parts of a status byte: carry, half carry, flag 0, bank, bit 3 and the stack pointer
pub record IsStatus (byte : ℕ) (c ac f0 rb : Bool) (bit_3 sp : ℕ) : Type 0 where
  pub carry : bit 7 byte ≡ c
  pub half_carry : bit 6 byte ≡ ac
  pub flag_0 : bit 5 byte ≡ f0
  pub bank : bit 4 byte ≡ rb
  pub one : byte / 8 % 2 ≡ bit_3
  pub stack : byte % 8 ≡ sp
