-- `words`: what INT 09h says of bytes that the keyboard sends through the controller.
use Rattle.std.specs.Prelude.{ℕ, true, List, [], ◌∷◌, ◌++◌}
use Rattle.std.specs.Prelude.{if◌then◌else◌}
use Rattle.ctl_core.specs.Controller.{ControllerState, at_start, emptied}
use Rattle.ctl_core.specs.Translation.{after_received}
use Rattle.int09.specs.Bios.{State, start}
use Rattle.int09.specs.Rules.{fed}
use Rattle.pc_tables.specs.Items.{text_of}
use Rattle.pc_tables.specs.declared.item.Item.{Item}
use Rattle.pc_tables.specs.declared.item.Item.TheVariants.{Port}

-- the controller, and what INT 09h keeps
pub record Desk : Type 0 where
  pub controller : ControllerState
  pub bios : State

-- INT 09h reads what the controller has put out, if it has: the desk afterwards, and what is said
abbrev pub desk_after_read : ControllerState → State → Desk
desk_after_read controller bios =
    if controller.output_full
    then record { controller = emptied controller; bios = (fed controller.output bios).after }
    else record { controller = controller; bios = bios }

abbrev pub said_of_read : ControllerState → State → List Item
said_of_read controller bios =
    if controller.output_full then Port controller.output ∷ (fed controller.output bios).items else []

-- the controller receives a byte with right parity, and then INT 09h reads
abbrev pub desk_after : Desk → ℕ → Desk
desk_after desk byte = desk_after_read (after_received desk.controller byte true) desk.bios

abbrev pub said_of : Desk → ℕ → List Item
said_of desk byte = said_of_read (after_received desk.controller byte true) desk.bios

-- of bytes one after another
abbrev pub items_of : Desk → List ℕ → List Item
items_of desk [] = []
items_of desk (byte ∷ bytes) = said_of desk byte ++ items_of (desk_after desk byte) bytes

-- one line an item
abbrev pub line_of_item : Item → List ℕ
line_of_item item = text_of item ++ 10 ∷ []

abbrev pub lines_of : List Item → List ℕ
lines_of [] = []
lines_of (item ∷ items) = line_of_item item ++ lines_of items

-- what is printed of bytes that come to a controller and an INT 09h at their start
abbrev pub fed_text : List ℕ → List ℕ
fed_text bytes = lines_of (items_of (record { controller = at_start; bios = start }) bytes)
