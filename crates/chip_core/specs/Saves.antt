-- A chip's state as bytes.
use Rattle.std.specs.Prelude.{Option, None, Some}
use Rattle.mcs48_bytes.specs.Processors.{processor_bytes, processor_in}
use Rattle.mcs48_core.specs.Cpu.{Cpu}
use Rattle.chip_core.specs.declared.chip.Chip.{Chip}
use Rattle.chip_core.specs.declared.saving.Saved.{Saved}

-- the state of a chip, and the state that such bytes mean
abbrev pub saved_of : Chip → Saved
saved_of c = record { processor = processor_bytes c.mcu; ram = c.mcu.ram }

abbrev pub loaded : Saved → Option Cpu
loaded s = processor_in s.processor s.ram

-- the chip in that state, or as it was if there is none
abbrev pub loaded_into : Chip → Option Cpu → Chip
loaded_into c None = c
loaded_into c (Some cpu) = record c { mcu = cpu }
