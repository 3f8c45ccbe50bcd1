-- The text of an item of the log, and its line.
use Rattle.std.specs.Prelude.{ℕ, ◌%◌, List, [], ◌∷◌, ◌++◌, codes, Some, None}
use Rattle.std.specs.Fmt.{decimal}
use Rattle.hex_text.specs.Digits.{hex_digit, hex_byte, hex_word}
use Rattle.pc_tables.specs.declared.item.Item.{Item}
use Rattle.pc_tables.specs.declared.item.Item.TheVariants.{Port, Read, Word, Beep, Overrun, Lights, Taken, Status}
use Rattle.pc_tables.specs.declared.item.Item.TheVariants.{Output, Pulse}
use Rattle.pc_tables.specs.declared.item.Item.TheVariants.{Broke, Pause, Resume, Print, Boot, SysMake, SysBreak}

-- the low digit of a value
abbrev pub low_digit : ℕ → List ℕ
low_digit value = hex_digit (value % 16) ∷ []

-- the item without the tick before it and the line's end after it
abbrev pub text_of : Item → List ℕ
text_of (Port byte) = codes "port " ++ hex_byte byte
text_of (Read byte) = codes "read " ++ hex_byte byte
text_of (Word word) = codes "word " ++ hex_word word
text_of Beep = codes "beep"
text_of Overrun = codes "overrun"
text_of (Lights value) = codes "lights " ++ low_digit value
text_of (Taken (Some word)) = codes "taken " ++ hex_word word
text_of (Taken None) = codes "taken none"
text_of (Status byte) = codes "status " ++ hex_byte byte
text_of (Output byte) = codes "output " ++ hex_byte byte
text_of (Pulse value) = codes "pulse " ++ low_digit value
text_of Broke = codes "break"
text_of Pause = codes "pause"
text_of Resume = codes "resume"
text_of Print = codes "print"
text_of Boot = codes "boot"
text_of SysMake = codes "sysreq make"
text_of SysBreak = codes "sysreq break"

-- the line of an item that arose in a tick
abbrev pub line_of : ℕ → Item → List ℕ
line_of tick item = decimal tick ++ 32 ∷ text_of item ++ 10 ∷ []
