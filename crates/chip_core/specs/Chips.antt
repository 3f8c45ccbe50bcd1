-- A processor with its program: switched on, reset, and one step on.
use Rattle.std.specs.Prelude.{ℕ, List, Option, None, Some, replicate}
use Rattle.mcs48_core.specs.declared.levels.Pins.{Pins}
use Rattle.mcs48_core.specs.Reset.{reset_cpu, reset_in}
use Rattle.mcs48_core.specs.Step.{stepped, Stepped}
use Rattle.chip_core.specs.declared.chip.Chip.{Chip}

-- just switched on with this program; data memory, A and T hold this byte
abbrev pub powered_on : ℕ → List ℕ → Chip
powered_on fill program = record {
  image = record { bytes = program };
  mcu = record reset_cpu { a = fill; ram = replicate 128 fill; t = fill };
}

-- after a reset by the pin
abbrev pub reset_of : Chip → Chip
reset_of c = record c { mcu = reset_in c.mcu }

-- the processor's step over the chip's program, with these levels at the pins; none if the processor is stuck
abbrev pub next_of : Pins → Chip → Option Stepped
next_of pins c = stepped c.image.bytes pins c.mcu

-- how many cycles such a step takes, and the chip after it
abbrev pub cycles_of : Option Stepped → ℕ
cycles_of None = 0
cycles_of (Some next) = next.cycles

abbrev pub after : Option Stepped → Chip → Chip
after None c = c
after (Some next) c = record c { mcu = next.cpu }
