-- Laws of typed texts: the history that types a text is accepted and quiet, and its log says the text.
use Rattle.std.specs.Prelude.{◌≡◌, ◌≤◌, ℕ, ◌%◌, Bool, true, false, List, [], ◌∷◌, ◌++◌, map, length, All, Some}
use Rattle.std.specs.Option.{option_map}
use Rattle.std.specs.declared.option.Option.{Option}
use Rattle.pc_tables.specs.declared.item.Item.{Item}
use Rattle.pc_tables.specs.declared.item.Item.TheVariants.{Port, Read, Word, Beep, Overrun, Lights, Taken, Status}
use Rattle.pc_tables.specs.declared.item.Item.TheVariants.{Output, Pulse}
use Rattle.pc_tables.specs.declared.item.Item.TheVariants.{Broke, Pause, Resume, Print, Boot, SysMake, SysBreak}
use Rattle.layout_reader.specs.Layouts.{KeyLayout, IsKeyLayout}
use Rattle.key_file.specs.Histories.{KeyHistory}
use Rattle.key_file.specs.Accepted.{IsAcceptedFor}
use Rattle.model_link.specs.declared.line.LogLine.{LogLine}
use Rattle.law_quiet_log.specs.Quiet.{IsQuiet, quiet_log}
use Rattle.law_typed_log.specs.Typing.{Stroke, character, strokes_of, planned}

-- a history can be run on the layout, and its log is the same wherever in the cadence its ticks start
pub record IsPlayable (layout : KeyLayout) (history : KeyHistory) : Type 0 where
  pub accepted : IsAcceptedFor layout history
  pub quiet : IsQuiet history

-- the history of a text's strokes is so, for a text of at most 10,000 bytes
abbrev pub StrokesArePlayable : Type 0
StrokesArePlayable =
    (layout : KeyLayout) (text : List ℕ) (strokes : List Stroke) → IsKeyLayout layout → length text ≤ 10000
    → strokes_of layout text ≡ Some strokes → IsPlayable layout (planned strokes)

-- an item that reports something lost: of a word that found no room, or of an overrun of the keyboard's queue
abbrev pub is_loss : Item → Bool
is_loss (Port byte) = false
is_loss (Read byte) = false
is_loss (Word word) = false
is_loss Beep = true
is_loss Overrun = true
is_loss (Lights value) = false
is_loss (Taken word) = false
is_loss (Status byte) = false
is_loss (Output byte) = false
is_loss (Pulse value) = false
is_loss Broke = false
is_loss Pause = false
is_loss Resume = false
is_loss Print = false
is_loss Boot = false
is_loss SysMake = false
is_loss SysBreak = false

-- what the host took: a word, or none if the buffer was empty
abbrev pub taken_by : Item → List (Option ℕ)
taken_by (Port byte) = []
taken_by (Read byte) = []
taken_by (Word word) = []
taken_by Beep = []
taken_by Overrun = []
taken_by (Lights value) = []
taken_by (Taken word) = word ∷ []
taken_by (Status byte) = []
taken_by (Output byte) = []
taken_by (Pulse value) = []
taken_by Broke = []
taken_by Pause = []
taken_by Resume = []
taken_by Print = []
taken_by Boot = []
taken_by SysMake = []
taken_by SysBreak = []

-- the words that the host takes in a log, in their order
abbrev pub taken_in : List LogLine → List (Option ℕ)
taken_in [] = []
taken_in (line ∷ lines) = taken_by line.item ++ taken_in lines

-- the character of a word
abbrev pub low_byte : ℕ → ℕ
low_byte word = word % 256

-- a log says a text: nothing is lost, and the host takes as many words as the text has bytes, each with the character
-- of its byte
pub record Says (text : List ℕ) (log : List LogLine) : Type 0 where
  pub nothing_lost : All (λ line. is_loss line.item ≡ false) log
  pub taken : map (option_map low_byte) (taken_in log) ≡ map (λ byte. Some (character byte)) text

-- the quiet log of a text's strokes says the text
abbrev pub StrokesSayText : Type 0
StrokesSayText =
    (layout : KeyLayout) (text : List ℕ) (strokes : List Stroke) → IsKeyLayout layout → length text ≤ 10000
    → strokes_of layout text ≡ Some strokes → Says text (quiet_log layout (planned strokes))
