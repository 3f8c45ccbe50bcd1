-- The keyboard at its two wires: its processor, and the keys that are down.
use Rattle.std.specs.Prelude.{ℕ, List, Bool, true}
use Rattle.board_terms.specs.declared.lines.Lines.{Lines}
use Rattle.board_terms.specs.Matrix.{all_up, rows_of}
use Rattle.chip_core.specs.declared.chip.Chip.{Chip}
use Rattle.chip_core.specs.Chips.{powered_on}
use Rattle.mcs48_core.specs.declared.levels.Pins.{Pins}
use Rattle.kbd_half.specs.declared.keyboard.KbdHalf.{KbdHalf}

-- just switched on with this program; the processor's data memory, A and T hold this byte
abbrev pub keyboard_on : ℕ → List ℕ → KbdHalf
keyboard_on fill program = record { chip = powered_on fill program; matrix = all_up }

-- with another state of the processor
abbrev pub with_chip : Chip → KbdHalf → KbdHalf
with_chip c k = record k { chip = c }

-- the levels at the processor's pins, by those of the wires, the keys that are down and the latch of port 1: the rows
-- of the column that its low nibble selects, the clock at T0 and data at T1. All other pins are high
abbrev pub pins_at : Lines → List Bool → ℕ → Pins
pins_at line keys p1 = record {
  p1 = 0xff;
  p2 = 0xff;
  bus = rows_of keys p1;
  t0 = line.clk;
  t1 = line.dat;
  int_pin = true;
}
