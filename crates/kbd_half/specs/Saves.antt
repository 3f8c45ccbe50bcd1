-- A keyboard that goes back to a saved state.
use Rattle.std.specs.Prelude.{List, Bool, Option, None, Some}
use Rattle.mcs48_core.specs.Cpu.{Cpu}
use Rattle.kbd_half.specs.declared.keyboard.KbdHalf.{KbdHalf}

-- the keyboard with its processor in this state and these keys down, or as it was if there is no such state
abbrev pub gone_back : Option Cpu → List Bool → KbdHalf → KbdHalf
gone_back None keys k = k
gone_back (Some cpu) keys k = record k { chip = record k.chip { mcu = cpu }; matrix = keys }
