-- The program counter, the registers of the selected bank, and the data byte that a register points to.
use Rattle.std.specs.Prelude.{ℕ, ◌+◌, ◌*◌, ◌/◌, ◌%◌, Bool, true, false, slice_index, slice_set}
use Rattle.mcs48_core.specs.Cpu.{Cpu}

-- the counter one byte on: counting changes the low 11 bits alone
abbrev pub counted : ℕ → ℕ
counted pc = pc / 2048 * 2048 + (pc + 1) % 2048

-- after one more byte
abbrev pub past : Cpu → Cpu
past m = record m { pc = counted m.pc }

-- the place n in the page that the counter is in
abbrev pub in_page : ℕ → ℕ → ℕ
in_page pc n = pc / 256 * 256 + n

-- where the bank begins in data memory
abbrev pub bank_start : Bool → ℕ
bank_start true = 24
bank_start false = 0

-- Rr
abbrev pub register : ℕ → Cpu → ℕ
register r m = slice_index m.ram (bank_start m.rb + r)

-- with a new value of Rr
abbrev pub with_register : ℕ → ℕ → Cpu → Cpu
with_register r v m = record m { ram = slice_set m.ram (bank_start m.rb + r) v }

-- @Ri: the data byte at the low seven bits of Ri
abbrev pub indirect : ℕ → Cpu → ℕ
indirect i m = slice_index m.ram (register i m % 128)

-- with a new value of @Ri
abbrev pub with_indirect : ℕ → ℕ → Cpu → Cpu
with_indirect i v m = record m { ram = slice_set m.ram (register i m % 128) v }
