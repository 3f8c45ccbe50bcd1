-- The bytes that INT 09h reads, as a log says them.
use Rattle.std.specs.Prelude.{ℕ, List, [], ◌∷◌}
use Rattle.std.specs.List.{flat_map}
use Rattle.pc_tables.specs.declared.item.Item.{Item}
use Rattle.pc_tables.specs.declared.item.Item.TheVariants.{Port, Read, Word, Beep, Overrun, Lights, Taken, Status}
use Rattle.pc_tables.specs.declared.item.Item.TheVariants.{Output, Pulse, Broke, Pause, Resume, Print, Boot}
use Rattle.pc_tables.specs.declared.item.Item.TheVariants.{SysMake, SysBreak}

-- the byte of a `port` item
abbrev pub port_of : Item → List ℕ
port_of (Port byte) = byte ∷ []
port_of (Read byte) = []
port_of (Word word) = []
port_of Beep = []
port_of Overrun = []
port_of (Lights lights) = []
port_of (Taken word) = []
port_of (Status status) = []
port_of (Output byte) = []
port_of (Pulse lines) = []
port_of Broke = []
port_of Pause = []
port_of Resume = []
port_of Print = []
port_of Boot = []
port_of SysMake = []
port_of SysBreak = []

-- those of items, in their order
abbrev pub ports : List Item → List ℕ
ports items = flat_map port_of items
