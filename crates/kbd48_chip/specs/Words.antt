-- The levels at a chip's pins and its latches, as numbers of 32 bits.
use Rattle.std.specs.Prelude.{ℕ, ◌+◌, ◌*◌, ◌/◌, ◌%◌, ℤ, pos, Option, None, Some}
use Rattle.bits.specs.Bits.{bit}
use Rattle.mcs48_core.specs.Cpu.{Cpu}
use Rattle.mcs48_core.specs.declared.levels.Pins.{Pins}
use Rattle.chip_core.specs.declared.chip.Chip.{Chip}

-- the levels: the bus in bits 0 to 7, port 1 in 8 to 15, port 2 in 16 to 23, T0, T1 and INT in 24, 25 and 26
abbrev pub pins_in : ℕ → Pins
pins_in levels = record {
  p1 = levels / 0x100 % 256;
  p2 = levels / 0x10000 % 256;
  bus = levels % 256;
  t0 = bit 24 levels;
  t1 = bit 25 levels;
  int_pin = bit 26 levels;
}

-- what a step answers: the latches of the bus, of port 1 and of port 2 in the same bits, and above them the step's cycles
abbrev pub answer_of : ℕ → Chip → ℕ
answer_of cycles c = c.mcu.bus + 0x100 * c.mcu.p1 + 0x10000 * c.mcu.p2 + 0x1000000 * cycles

-- what a load answers
abbrev pub load_status : Option Cpu → ℤ
load_status None = pos 0
load_status (Some cpu) = pos 1
