-- The edges of a tick as the code goes through them: column by column, row by row; the held keys apart.
use Rattle.std.specs.Prelude.{ℕ, zero, suc, ◌+◌, ◌*◌, ◌^◌, ◌==◌, Bool, true, false, not, ◌&&◌, if◌then◌else◌}
use Rattle.std.specs.Prelude.{List, [], ◌∷◌, Some, None, bit_and, bit_xor}
use Rattle.std.specs.declared.option.Option.{Option}
use Rattle.bits.specs.Bits.{bit}
use Rattle.board_terms.specs.Matrix.{turned}
use Rattle.law_fw_logic.proofs.Block.{put}
use Rattle.model_keyboard.specs.declared.state.Repeat.{Repeat}
use Rattle.model_keyboard.specs.Codes.{Keys, make, release}
use Rattle.model_keyboard.specs.Keyboard.{Keyboard}
use Rattle.model_keyboard.specs.Queue.{enter}
use Rattle.model_keyboard.specs.Typematic.{delay}

-- in a column: the keyboard, whether the Fn key is down, and the layers of the column's last presses as a byte
pub record Deck : Type 0 where
  pub keyboard : Keyboard
  pub fn : Bool
  pub byte : ℕ

-- between columns: the layers as a byte a column
pub record Decks : Type 0 where
  pub keyboard : Keyboard
  pub fn : Bool
  pub bytes : ℕ → ℕ

-- the Fn key as a cell, and a column's layers with that of a row
abbrev pub fn_cell : Bool → ℕ
fn_cell true = 255
fn_cell false = 0

abbrev pub with_bit : ℕ → ℕ → ℕ → ℕ
with_bit row cell byte = bit_xor (bit_and (bit_xor cell byte) (2 ^ row)) byte

-- what repeats ends by place and layer, as the code compares them
abbrev pub alike : Bool → Bool → Bool
alike true b = b
alike false b = not b

abbrev pub ended_in : ℕ → Bool → Option Repeat → Option Repeat
ended_in place on_fn None = None
ended_in place on_fn (Some r) = if (r.place == place) && alike r.on_fn on_fn then None else Some r

-- an edge, but for the held keys, by whether its key is the Fn key, whether scanning is on, and whether it is make-only
abbrev pub edge_by : Bool → Bool → Bool → ℕ → ℕ → Bool → Bool → Keyboard → Keyboard
edge_by true on only code place down on_fn k = k
edge_by false false only code place down on_fn k = k
edge_by false true only code place true on_fn k = record k {
  queue = enter (make code) k.queue;
  repeats = Some (record { place = place; count = delay k.rate; on_fn = on_fn });
}
edge_by false true false code place false on_fn k = record k {
  queue = enter (release code) k.queue;
  repeats = ended_in place on_fn k.repeats;
}
edge_by false true true code place false on_fn k = record k { repeats = ended_in place on_fn k.repeats }

-- and in a column, at a row
abbrev pub struck_by : Bool → Bool → Bool → ℕ → ℕ → ℕ → Bool → Bool → ℕ → Deck → Deck
struck_by silent on only code place row down on_fn cell d = record {
  keyboard = edge_by silent on only code place down on_fn d.keyboard;
  fn = if silent then down else d.fn;
  byte = if down then with_bit row cell d.byte else d.byte;
}

abbrev pub layer : ℕ → Bool → Deck → Bool
layer row true d = d.fn
layer row false d = bit row d.byte

abbrev pub edge : Keys → Bool → ℕ → ℕ → Bool → Deck → Deck
edge keys on place row down d =
    struck_by (keys.is_fn place) on (keys.make_only place) (keys.code (layer row down d) place) place row down
    (layer row down d) (fn_cell d.fn) d

-- n rows from row r on, of a column whose row 0 is at a place, by the bytes of what changed and of what is down
abbrev pub rows : (ℕ → ℕ → Bool → Deck → Deck) → ℕ → ℕ → ℕ → ℕ → ℕ → Deck → Deck
rows e place r zero changed down d = d
rows e place r (suc n) changed down d =
    rows e place (suc r) n changed down (if bit r changed then e (place + r) r (bit r down) d else d)

-- a column, and n columns from column c on
abbrev pub opened : ℕ → Decks → Deck
opened c s = record { keyboard = s.keyboard; fn = s.fn; byte = s.bytes c }

abbrev pub closed : ℕ → (ℕ → ℕ) → Deck → Decks
closed c bytes d = record { keyboard = d.keyboard; fn = d.fn; bytes = put bytes c d.byte }

abbrev pub column : (ℕ → ℕ → Bool → Deck → Deck) → ℕ → ℕ → ℕ → Decks → Decks
column e c changed down s = closed c s.bytes (rows e (8 * c) 0 8 changed down (opened c s))

abbrev pub columns : (ℕ → ℕ → Bool → Deck → Deck) → ℕ → ℕ → (ℕ → ℕ) → (ℕ → ℕ) → Decks → Decks
columns e c zero changed down s = s
columns e c (suc n) changed down s =
    columns e (suc c) n changed down (if changed c == 0 then s else column e c (changed c) (down c) s)

-- the keys that are held after edges
abbrev pub turned_all : List (ℕ × Bool) → List Bool → List Bool
turned_all [] held = held
turned_all (e ∷ es) held = turned_all es (turned e.0 e.1 held)
