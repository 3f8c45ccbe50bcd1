-- What types a text on a layout: the key of each character, and the history in which these keys are struck.
use Rattle.std.specs.Prelude.{ℕ, suc, ◌+◌, ◌*◌, ◌%◌, ◌==◌, Bool, true, false, not, ◌&&◌, ◌||◌, if◌then◌else◌}
use Rattle.std.specs.Prelude.{List, [], ◌∷◌, ◌++◌, length, find, codes, Some, None, is_none, option_and_then}
use Rattle.std.specs.Option.{option_or}
use Rattle.std.specs.Str.{bytes_eq}
use Rattle.std.specs.declared.option.Option.{Option}
use Rattle.pc_tables.specs.declared.words.WordRow.{WordRow}
use Rattle.pc_tables.specs.Keys.{name_at, scan_at}
use Rattle.pc_tables.specs.Words.{words_at}
use Rattle.board_terms.specs.declared.event.Edge.{Edge}
use Rattle.board_terms.specs.declared.event.HostAct.TheVariants.{Take}
use Rattle.board_terms.specs.declared.event.HostEvent.{HostEvent}
use Rattle.layout_reader.specs.declared.entry.Entry.{Entry}
use Rattle.layout_reader.specs.Layouts.{KeyLayout}
use Rattle.key_file.specs.Histories.{KeyHistory}

-- the character of a byte of the text: a line feed is an Enter, as a carriage return is; any other byte is itself
abbrev pub character : ℕ → ℕ
character byte = if byte == 0x0a then 0x0d else byte

-- a column of the table of words
abbrev pub Column : Type 0
Column = WordRow → Option ℕ

abbrev pub base : Column
base row = row.base

abbrev pub shifted : Column
shifted row = row.shift

-- a word enters the character in its low byte
abbrev pub is_low : ℕ → Option ℕ → Bool
is_low character None = false
is_low character (Some word) = word % 256 == character

-- the word of a key in a column, if there is one
abbrev pub word_of : Column → ℕ → Option ℕ
word_of column key = option_and_then column (words_at (scan_at key))

-- what an entry sends enters the character in a column
unfoldable pub enters : Column → ℕ → Entry → Bool
enters column character entry = is_low character (option_and_then (word_of column) entry.sends)

-- an entry sends one of the two shift keys
abbrev pub is_shift : ℕ → Bool
is_shift key = bytes_eq (name_at key) (codes "lshift") || bytes_eq (name_at key) (codes "rshift")

abbrev pub sends_shift : Option ℕ → Bool
sends_shift None = false
sends_shift (Some key) = is_shift key

-- the shift entry is the first that does, and sends a break too
unfoldable pub is_shift_entry : Entry → Bool
is_shift_entry entry = sends_shift entry.sends && not entry.make_only

abbrev pub shift_entry : List Entry → Option Entry
shift_entry entries = find is_shift_entry entries

-- how a character is typed: with the key of an entry, or with the second entry's under the first's, the shift entry's
pub data Stroke : Type 0 where
  Plain : Entry → Stroke
  Shifted : Entry → Entry → Stroke

abbrev pub plain : Option Entry → Option Stroke
plain None = None
plain (Some key) = Some (Plain key)

abbrev pub under_shift : Option Entry → Option Entry → Option Stroke
under_shift (Some shift) (Some key) = Some (Shifted shift key)
under_shift (Some shift) None = None
under_shift None key = None

-- the key of a character: the first entry, in the layout's order, that enters it in the base column; if no entry
-- does, the first that enters it in the shift column, under the shift entry. 00 has none
abbrev pub key_of : ℕ → List Entry → Option Stroke
key_of character entries =
    option_or (plain (find (enters base character) entries))
    (under_shift (shift_entry entries) (find (enters shifted character) entries))

unfoldable pub stroke_of : KeyLayout → ℕ → Option Stroke
stroke_of layout character = if character == 0x00 then None else key_of character layout.entries

-- the strokes of a text, if each of its bytes has a key
abbrev pub before : Option Stroke → Option (List Stroke) → Option (List Stroke)
before (Some stroke) (Some strokes) = Some (stroke ∷ strokes)
before (Some stroke) None = None
before None strokes = None

abbrev pub strokes_of : KeyLayout → List ℕ → Option (List Stroke)
strokes_of layout [] = Some []
strokes_of layout (byte ∷ text) = before (stroke_of layout (character byte)) (strokes_of layout text)

-- the first byte of a text that has no key: its number, if the text's first byte has this one, and the byte
abbrev pub without_from : KeyLayout → ℕ → List ℕ → Option (ℕ × ℕ)
without_from layout number [] = None
without_from layout number (byte ∷ text) =
    if is_none (stroke_of layout (character byte)) then Some (number, byte) else without_from layout (suc number) text

-- bytes are numbered from 1
abbrev pub first_without : KeyLayout → List ℕ → Option (ℕ × ℕ)
first_without layout text = without_from layout 1 text

-- the stamp at which the stroke with this number begins, from 0. The first one begins in the second half of tick 79,
-- when the keyboard's test is over and its end is reported; and then one each ten ticks of 2,048 cycles
abbrev pub stroke_start : ℕ → ℕ
stroke_start number = 162816 + 20480 * number

-- a key goes down, or up
abbrev pub presses : Entry → ℕ → Edge
presses entry stamp = record { stamp = stamp; place = entry.place; down = true }

abbrev pub releases : Entry → ℕ → Edge
releases entry stamp = record { stamp = stamp; place = entry.place; down = false }

-- the stamps of what a stroke is made of, by the one at which it begins: under shift its second key goes down one tick
-- later, and up four; the key that went down first goes up five ticks later; and seven ticks later the word is taken
abbrev pub second_down : ℕ → ℕ
second_down start = start + 2048

abbrev pub second_up : ℕ → ℕ
second_up start = start + 8192

abbrev pub first_up : ℕ → ℕ
first_up start = start + 10240

abbrev pub word_taken : ℕ → ℕ
word_taken start = start + 14336

-- its edges
abbrev pub edges_of : ℕ → Stroke → List Edge
edges_of start (Plain key) = presses key start ∷ releases key (first_up start) ∷ []
edges_of start (Shifted shift key) =
    presses shift start ∷ presses key (second_down start)
    ∷ releases key (second_up start) ∷ releases shift (first_up start) ∷ []

-- the host takes its word
abbrev pub take_of : ℕ → HostEvent
take_of start = record { stamp = word_taken start; act = Take }

-- the edges and the takes of strokes, the first of which has this number
abbrev pub edges_from : ℕ → List Stroke → List Edge
edges_from number [] = []
edges_from number (stroke ∷ strokes) = edges_of (stroke_start number) stroke ++ edges_from (suc number) strokes

abbrev pub takes_from : ℕ → List Stroke → List HostEvent
takes_from number [] = []
takes_from number (stroke ∷ strokes) = take_of (stroke_start number) ∷ takes_from (suc number) strokes

-- the history in which strokes are made, one after the other
unfoldable pub planned : List Stroke → KeyHistory
planned strokes = record {
  edges = edges_from 0 strokes;
  host = takes_from 0 strokes;
  end = stroke_start (length strokes);
}
