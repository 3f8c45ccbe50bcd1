-- What INT 09h keeps, and the outcome of a byte.
use Rattle.std.specs.Prelude.{ℕ, Bool, false, nat_lt, if◌then◌else◌, List, [], ◌∷◌, ◌++◌, length, slice_get, drop}
use Rattle.std.specs.Prelude.{Some, None}
use Rattle.std.specs.declared.option.Option.{Option}
use Rattle.pc_tables.specs.declared.item.Item.{Item}
use Rattle.pc_tables.specs.declared.item.Item.TheVariants.{Word, Beep}

-- the bytes at 40:17 and 40:18, the number typed under Alt, whether FA and FE have come, and the words in the buffer,
-- the first one first
pub record State : Type 0 where
  pub shifts : ℕ
  pub downs : ℕ
  pub number : ℕ
  pub ack : Bool
  pub resend : Bool
  pub words : List ℕ

abbrev pub start : State
start = record { shifts = 0; downs = 0; number = 0; ack = false; resend = false; words = [] }

-- the state after a byte, and the items said, in order
pub record Effect : Type 0 where
  pub after : State
  pub items : List Item

abbrev pub quiet : State → Effect
quiet s = record { after = s; items = [] }

abbrev pub says : Item → State → Effect
says item s = record { after = s; items = item ∷ [] }

-- the buffer holds at most 15 words; a word that finds no room is a beep
abbrev pub enters : ℕ → State → Effect
enters word s =
    if nat_lt (length s.words) 15 then says (Word word) (record s { words = s.words ++ word ∷ [] }) else says Beep s

-- the word, if there is one
abbrev pub enters_if : Option ℕ → State → Effect
enters_if (Some word) s = enters word s
enters_if None s = quiet s

-- the word that is taken, and the state without it
abbrev pub first_word : State → Option ℕ
first_word s = slice_get s.words 0

abbrev pub without_first : State → State
without_first s = record s { words = drop 1 s.words }
