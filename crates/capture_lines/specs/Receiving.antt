-- What a PC makes of the keyboard's bytes: its controller as at power-on, and INT 09h, of which a program takes each word
-- at once.
use Rattle.std.specs.Prelude.{ℕ, Bool, ◌&&◌, List, [], ◌∷◌, ◌++◌, if◌then◌else◌}
use Rattle.ctl_core.specs.Controller.{ControllerState, at_start, emptied}
use Rattle.ctl_core.specs.Translation.{after_received}
use Rattle.int09.specs.Bios.{State, start, without_first}
use Rattle.int09.specs.Rules.{fed}
use Rattle.pc_tables.specs.Items.{text_of}
use Rattle.pc_tables.specs.declared.item.Item.{Item}
use Rattle.pc_tables.specs.declared.item.Item.TheVariants.{Port}
use Rattle.capture_frames.specs.declared.finding.Finding.{Finding}
use Rattle.capture_frames.specs.declared.finding.Finding.TheVariants.{Byte, Few, Cut, Unfinished, Stray, Glitch, Hold, StaysLow}
use Rattle.capture_frames.specs.declared.finding.Whole.{Whole}
use Rattle.capture_lines.specs.Lines.{time_text}

-- the controller, and what INT 09h keeps
pub record Receiver : Type 0 where
  pub controller : ControllerState
  pub bios : State

abbrev pub at_power_on : Receiver
at_power_on = record { controller = at_start; bios = start }

-- the receiver after a byte, and what is said
pub record Receipt : Type 0 where
  pub after : Receiver
  pub items : List Item

abbrev pub no_receipt : Receiver → Receipt
no_receipt r = record { after = r; items = [] }

-- INT 09h reads what the controller has put out, if it has
abbrev pub read : ControllerState → State → Receipt
read c b =
    if c.output_full
    then record {
      after = record { controller = emptied c; bios = without_first (fed c.output b).after };
      items = Port c.output ∷ (fed c.output b).items;
    }
    else no_receipt (record { controller = c; bios = b })

-- a byte came, right or wrong
abbrev pub receipt : ℕ → Bool → Receiver → Receipt
receipt byte right r = read (after_received r.controller byte right) r.bios

-- nothing is wrong with a frame
abbrev pub is_right : Whole → Bool
is_right w = w.start && w.parity && w.stop && w.acknowledged

-- a frame of eleven edges is a byte to the PC, if the keyboard sent it
abbrev pub receipt_of : Finding → Receiver → Receipt
receipt_of (Byte w) r = if w.from_host then no_receipt r else receipt w.byte (is_right w) r
receipt_of (Few from_host edges) r = no_receipt r
receipt_of (Cut from_host edges) r = no_receipt r
receipt_of (Unfinished from_host edges) r = no_receipt r
receipt_of Stray r = no_receipt r
receipt_of Glitch r = no_receipt r
receipt_of (Hold asks) r = no_receipt r
receipt_of StaysLow r = no_receipt r

-- a line an item
abbrev pub item_line : ℕ → Item → List ℕ
item_line time item = time_text time ++ text_of item ++ 10 ∷ []

abbrev pub item_lines : ℕ → List Item → List ℕ
item_lines time [] = []
item_lines time (item ∷ items) = item_line time item ++ item_lines time items
