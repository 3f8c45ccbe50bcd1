-- The entries of a layout document.
use Rattle.std.specs.Prelude.{◌≡◌, ℕ, ◌==◌, ◌<◌, Bool, false, ◌&&◌, ◌||◌, not, if◌then◌else◌, List, [], ◌∷◌, codes}
use Rattle.std.specs.Prelude.{Option, None, is_none, IfSome, option_and_then, unwrap_or, Result, Err}
use Rattle.std.specs.List.{list_any}
use Rattle.toml.specs.Data.{Data, table, Members}
use Rattle.board_terms.specs.Places.{place_at}
use Rattle.layout_reader.specs.declared.entry.Entry.{Entry}
use Rattle.layout_reader.specs.declared.cause.Cause.{Cause}
use Rattle.layout_reader.specs.declared.cause.Cause.TheVariants.{UnknownField, MissingField, WrongKind}
use Rattle.layout_reader.specs.declared.cause.Cause.TheVariants.{UnknownKey, PlaceOutOfRange, PlaceTaken}
use Rattle.layout_reader.specs.declared.cause.Cause.TheVariants.{KeyNamedBefore, FnNamedBefore, FnSends}
use Rattle.layout_reader.specs.declared.fields.Format.{Format}
use Rattle.layout_reader.specs.declared.fields.Level.TheVariants as level
use Rattle.layout_reader.specs.Faults.{Judgement, judge, first_of, unless}
use Rattle.layout_reader.specs.Fields.{has_other_field, has_field, is_not_text, is_not_whole, is_not_truth, byte_at}
use Rattle.layout_reader.specs.Fields.{key_at, is_set}

-- the key whose code the entry sends; if it names none, its own
unfoldable pub sends_in : Members → Option ℕ
sends_in fields =
    if has_field (codes "sends") fields then key_at (codes "sends") fields else key_at (codes "key") fields

-- the key whose code it sends under Fn; if it names none, the same
unfoldable pub fn_sends_in : Members → Option ℕ
fn_sends_in fields = if has_field (codes "fn_sends") fields then key_at (codes "fn_sends") fields else sends_in fields

-- whether it is the Fn key, which selects the second layer and sends nothing
abbrev pub is_fn_in : Members → Bool
is_fn_in fields = is_set (codes "fn") fields

-- the place in the entry's column and row
unfoldable pub place_in : Members → Option ℕ
place_in fields =
    option_and_then (λ column. option_and_then (place_at column) (byte_at (codes "row") fields))
    (byte_at (codes "column") fields)

-- the entry of the fields, if nothing is wrong with them
abbrev pub entry_of : Members → Entry
entry_of fields = record {
  place = unwrap_or (place_in fields) 0;
  key = unwrap_or (key_at (codes "key") fields) 0;
  sends = if is_fn_in fields then None else sends_in fields;
  fn_sends = if is_fn_in fields then None else fn_sends_in fields;
  make_only = not (is_fn_in fields) && is_set (codes "make_only") fields;
}

-- the entry of the Fn key sends nothing
abbrev pub silent_entry : ℕ → ℕ → Entry
silent_entry place key = record { place = place; key = key; sends = None; fn_sends = None; make_only = false }

abbrev pub is_fn : Entry → Bool
is_fn entry = is_none entry.sends

-- whether an earlier entry has the place; whether one has the key; whether one is the Fn key's
unfoldable pub is_place_taken : List Entry → ℕ → Bool
is_place_taken earlier place = list_any (λ entry. entry.place == place) earlier

unfoldable pub is_key_named : List Entry → ℕ → Bool
is_key_named earlier key = list_any (λ entry. entry.key == key) earlier

unfoldable pub has_fn : List Entry → Bool
has_fn earlier = list_any is_fn earlier

-- an entry names no key, no column or no row
abbrev pub lacks_field : Members → Bool
lacks_field fields =
    not (has_field (codes "key") fields) || not (has_field (codes "column") fields)
    || not (has_field (codes "row") fields)

-- a key's name is no text, a column or a row no whole number, or a truth value something else
abbrev pub has_wrong_kind : Members → Bool
has_wrong_kind fields =
    is_not_text (codes "key") fields || is_not_whole (codes "column") fields || is_not_whole (codes "row") fields
    || is_not_text (codes "sends") fields || is_not_text (codes "fn_sends") fields
    || is_not_truth (codes "fn") fields || is_not_truth (codes "make_only") fields

-- one of the keys that it names is unknown
abbrev pub has_unknown_key : Members → Bool
has_unknown_key fields =
    is_none (key_at (codes "key") fields) || is_none (sends_in fields) || is_none (fn_sends_in fields)

-- it says what is sent, or how
abbrev pub says_what_is_sent : Members → Bool
says_what_is_sent fields =
    has_field (codes "sends") fields || has_field (codes "fn_sends") fields || has_field (codes "make_only") fields

-- the last questions for an entry: there is one Fn key, and it sends nothing
abbrev pub fn_judgements : List Entry → Members → List Judgement
fn_judgements earlier fields =
    judge FnNamedBefore (is_fn_in fields && has_fn earlier)
    ∷ judge FnSends (is_fn_in fields && says_what_is_sent fields)
    ∷ []

-- the questions for an entry, in their order
abbrev pub entry_judgements : Format → List Entry → Members → List Judgement
entry_judgements format earlier fields =
    judge UnknownField (has_other_field (level.Entry format) fields)
    ∷ judge MissingField (lacks_field fields)
    ∷ judge WrongKind (has_wrong_kind fields)
    ∷ judge UnknownKey (has_unknown_key fields)
    ∷ judge PlaceOutOfRange (is_none (place_in fields))
    ∷ judge PlaceTaken (is_place_taken earlier (entry_of fields).place)
    ∷ judge KeyNamedBefore (is_key_named earlier (entry_of fields).key)
    ∷ fn_judgements earlier fields

-- the entry of the fields after the earlier entries, or its first fault
unfoldable pub entry_in : Format → List Entry → Members → Result Entry Cause
entry_in format earlier fields = unless (first_of (entry_judgements format earlier fields)) (entry_of fields)

-- the entry of an element of the list, or its first fault; an element that isn't a table is of the wrong kind
abbrev pub entry_from : Format → List Entry → Data → Result Entry Cause
entry_from format earlier (table fields) = entry_in format earlier fields
entry_from format earlier _ = Err WrongKind

-- the ranges of an entry's numbers; the Fn key has no code under Fn either, and no break that it could leave out
pub record IsEntry (entry : Entry) : Type 0 where
  pub place : entry.place < 96
  pub key : entry.key < 84
  pub sends : IfSome entry.sends (λ key. key < 84)
  pub fn_sends : IfSome entry.fn_sends (λ key. key < 84)
  pub both : is_none entry.fn_sends ≡ is_fn entry
  pub of_fn : (is_fn entry && entry.make_only) ≡ false
