-- A layout: a rate, whether keys are debounced, and entries in which no place and no key occurs twice and at most one is
-- the Fn key's.
use Rattle.std.specs.Prelude.{◌≡◌, ℕ, ◌<◌, ◌≤◌, nat_eq, ◌==◌, Bool, false, List, map, length, All, find}
use Rattle.std.specs.Prelude.{Option, Some, None, IsSome, is_none, option_and_then, unwrap_or}
use Rattle.std.specs.List.{IsDistinct, filter, range_with_len}
use Rattle.std.specs.Option.{option_map}
use Rattle.pc_tables.specs.Keys.{code_at as code_of_key}
use Rattle.layout_reader.specs.declared.entry.Entry.{Entry}
use Rattle.layout_reader.specs.Entries.{IsEntry, is_fn}

pub record KeyLayout : Type 0 where
  pub rate : ℕ
  pub debounce : Bool
  pub entries : List Entry

-- the same layout with a debounce, or without
abbrev pub with_debounce : Bool → KeyLayout → KeyLayout
with_debounce debounce layout = record layout { debounce = debounce }

-- the places of the entries, and their keys
abbrev pub places_of : List Entry → List ℕ
places_of entries = map (λ entry. entry.place) entries

abbrev pub keys_of : List Entry → List ℕ
keys_of entries = map (λ entry. entry.key) entries

-- each entry's numbers are in range, no place and no key occurs twice, and at most one entry is the Fn key's
pub record AreEntries (entries : List Entry) : Type 0 where
  pub each : All IsEntry entries
  pub own_places : IsDistinct nat_eq (places_of entries)
  pub own_keys : IsDistinct nat_eq (keys_of entries)
  pub one_fn : length (filter is_fn entries) ≤ 1

pub record IsKeyLayout (layout : KeyLayout) : Type 0 where
  pub rate : layout.rate < 128
  pub entries : AreEntries layout.entries

-- the entry at a place, and that of a key
abbrev pub entry_at : ℕ → List Entry → Option Entry
entry_at place entries = find (λ entry. entry.place == place) entries

abbrev pub entry_of_key : ℕ → List Entry → Option Entry
entry_of_key key entries = find (λ entry. entry.key == key) entries

-- the keyboard code of a place: that of the key that its entry sends, which the Fn key's doesn't
abbrev pub base_key : Entry → Option ℕ
base_key entry = entry.sends

unfoldable pub code_at : ℕ → KeyLayout → Option ℕ
code_at place layout = option_map code_of_key (option_and_then base_key (entry_at place layout.entries))

-- its code under Fn: that of the key that its entry sends then
abbrev pub fn_key : Entry → Option ℕ
fn_key entry = entry.fn_sends

unfoldable pub fn_code_at : ℕ → KeyLayout → Option ℕ
fn_code_at place layout = option_map code_of_key (option_and_then fn_key (entry_at place layout.entries))

-- whether the key at a place sends no break
unfoldable pub is_make_only : ℕ → KeyLayout → Bool
is_make_only place layout = unwrap_or (option_map (λ entry. entry.make_only) (entry_at place layout.entries)) false

-- the place of the Fn key, and whether a place is that
unfoldable pub fn_place : KeyLayout → Option ℕ
fn_place layout = option_map (λ entry. entry.place) (find is_fn layout.entries)

abbrev pub is_place : Option ℕ → ℕ → Bool
is_place (Some own) place = own == place
is_place None place = false

abbrev pub is_fn_place : KeyLayout → ℕ → Bool
is_fn_place layout place = is_place (fn_place layout) place

-- an entry has the place
abbrev pub HasEntry : KeyLayout → ℕ → Type 0
HasEntry layout place = IsSome (entry_at place layout.entries)

-- of the places of the layout, that of the Fn key alone has no code, in either layer
pub record IsSilentAtFn (layout : KeyLayout) : Type 0 where
  pub base : (place : ℕ) → HasEntry layout place → is_none (code_at place layout) ≡ is_fn_place layout place
  pub under_fn : (place : ℕ) → is_none (fn_code_at place layout) ≡ is_none (code_at place layout)

-- the place of a key
unfoldable pub place_of : ℕ → KeyLayout → Option ℕ
place_of key layout = option_map (λ entry. entry.place) (entry_of_key key layout.entries)

-- the sample layout: each key at the place of its number, sending its own code in both layers, at the default rate,
-- without a debounce
abbrev pub sample_entry : ℕ → Entry
sample_entry number =
    record { place = number; key = number; sends = Some number; fn_sends = Some number; make_only = false }

unfoldable pub us84 : KeyLayout
us84 = record { rate = 44; debounce = false; entries = map sample_entry (range_with_len 0 84) }
