-- Keys by their names.
use Rattle.std.specs.Prelude.{◌≡◌, ◌⊎◌, ℕ, ℤ, pos, List, Some, None, Ok, Err}
use Rattle.std.specs.declared.option.Option.{Option}
use Rattle.layout_reader.specs.Documents.{layout_of_document}
use Rattle.layout_reader.specs.Faults.{Refusal}
use Rattle.layout_reader.specs.Layouts.{KeyLayout, place_of}
use Rattle.pc_tables.specs.Keys.{key_with_name}
use Rattle.kbd48_c.specs.Statuses.{bad_text, done, no_memory, too_long}

-- one more status: no key has the name, or none of the layout
abbrev pub no_such_key : ℤ
no_such_key = pos 18

-- the place of the key with a name in a layout
abbrev pub place_of_key : Option ℕ → KeyLayout → Option ℕ
place_of_key None layout = None
place_of_key (Some key) layout = place_of key layout

abbrev pub place_named : List ℕ → KeyLayout → Option ℕ
place_named name layout = place_of_key (key_with_name name) layout

-- what is written and said of a place: if there is none what was there stays
abbrev pub place_or : Option ℕ → ℕ → ℕ
place_or None before = before
place_or (Some place) before = place

abbrev pub place_status : Option ℕ → ℤ
place_status None = no_such_key
place_status (Some place) = done

-- a text is no layout
abbrev pub HasFault : List ℕ → Type 0
HasFault text = (fault : Refusal) × (layout_of_document text ≡ Err fault)

-- the layout of a text has the key at this place, or has none of the name; or no key has the name, or no layout was read, and
-- what was there stays
abbrev pub IsKeyAt : List ℕ → List ℕ → ℕ → ℤ → ℕ → Type 0
IsKeyAt text name before status place =
    ((layout : KeyLayout) × (layout_of_document text ≡ Ok layout) × (status ≡ place_status (place_named name layout))
    × (place ≡ place_or (place_named name layout) before))
    ⊎ ((place ≡ before) × ((status ≡ bad_text) ⊎ (status ≡ too_long) ⊎ (status ≡ no_memory)
    ⊎ ((status ≡ no_such_key) × (key_with_name name ≡ None))))
