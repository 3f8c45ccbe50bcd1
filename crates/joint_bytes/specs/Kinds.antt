-- The kinds of what happens, as numbers.
use Rattle.std.specs.Prelude.{ℕ, ◌==◌, if◌then◌else◌, true, false, Some, None}
use Rattle.pc_tables.specs.declared.item.Item.{Item}
use Rattle.pc_tables.specs.declared.item.Item.TheVariants.{
  Port,
  Read,
  Word,
  Beep,
  Overrun,
  Lights,
  Taken,
  Status,
  Output,
  Pulse,
  Broke,
  Pause,
  Resume,
  Print,
  Boot,
  SysMake,
  SysBreak,
}
use Rattle.live_items.specs.declared.happened.What.{What}
use Rattle.live_items.specs.declared.happened.What.TheVariants.{Said, Passed}

-- the kind of an item as a number, and its byte or word. A taking that found the buffer empty is a kind of its own
abbrev pub kind_of : Item → ℕ
kind_of (Port byte) = 0
kind_of (Read byte) = 1
kind_of (Word word) = 2
kind_of Beep = 3
kind_of Overrun = 4
kind_of (Lights lights) = 5
kind_of (Taken (Some word)) = 6
kind_of (Taken None) = 7
kind_of (Status byte) = 8
kind_of (Output byte) = 9
kind_of (Pulse lines) = 10
kind_of Broke = 11
kind_of Pause = 12
kind_of Resume = 13
kind_of Print = 14
kind_of Boot = 15
kind_of SysMake = 16
kind_of SysBreak = 17

abbrev pub value_of : Item → ℕ
value_of (Port byte) = byte
value_of (Read byte) = byte
value_of (Word word) = word
value_of Beep = 0
value_of Overrun = 0
value_of (Lights lights) = lights
value_of (Taken (Some word)) = word
value_of (Taken None) = 0
value_of (Status byte) = byte
value_of (Output byte) = byte
value_of (Pulse lines) = lines
value_of Broke = 0
value_of Pause = 0
value_of Resume = 0
value_of Print = 0
value_of Boot = 0
value_of SysMake = 0
value_of SysBreak = 0

-- the item of a kind, by the number's two bytes: an item of a byte has the lower one
abbrev pub item_by : ℕ → ℕ → ℕ → Item
item_by kind byte word =
    if kind == 0 then Port byte
    else if kind == 1 then Read byte
    else if kind == 2 then Word word
    else if kind == 3 then Beep
    else if kind == 4 then Overrun
    else if kind == 5 then Lights byte
    else if kind == 6 then Taken (Some word)
    else if kind == 7 then Taken None
    else if kind == 8 then Status byte
    else if kind == 9 then Output byte
    else if kind == 10 then Pulse byte
    else if kind == 11 then Broke
    else if kind == 12 then Pause
    else if kind == 13 then Resume
    else if kind == 14 then Print
    else if kind == 15 then Boot
    else if kind == 16 then SysMake
    else SysBreak

-- a byte that passed over the wires is of two more kinds: the keyboard sent it, or the controller gave it to the keyboard
abbrev pub what_kind : What → ℕ
what_kind (Said item) = kind_of item
what_kind (Passed byte) = if byte.from_host then 19 else 18

abbrev pub what_value : What → ℕ
what_value (Said item) = value_of item
what_value (Passed byte) = byte.byte

abbrev pub what_by : ℕ → ℕ → ℕ → What
what_by kind byte word =
    if kind == 18 then Passed (record { from_host = false; byte = byte })
    else if kind == 19 then Passed (record { from_host = true; byte = byte })
    else Said (item_by kind byte word)
