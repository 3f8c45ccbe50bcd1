-- The fields of a table of the document, as `toml` reads it.
use Rattle.std.specs.Prelude.{ℕ, ℤ, pos, negsuc, nat_lt, Bool, false, ◌&&◌, ◌||◌, not, if◌then◌else◌}
use Rattle.std.specs.Prelude.{List, [], ◌∷◌, codes, Option, Some, None, is_some, is_none, option_and_then, unwrap_or}
use Rattle.std.specs.List.{list_any}
use Rattle.std.specs.Str.{bytes_eq}
use Rattle.toml.specs.Data.{Items, Members, no_members, member, get_member, as_str, as_integer, as_array, as_bool}
use Rattle.pc_tables.specs.Keys.{key_with_name}
use Rattle.layout_reader.specs.declared.fields.Format.TheVariants.{One, Two}
use Rattle.layout_reader.specs.declared.fields.Level.{Level}
use Rattle.layout_reader.specs.declared.fields.Level.TheVariants.{Top, Entry}

-- the fields that a table of the level may have; the second format adds three to an entry
abbrev pub fields_of : Level → List (List ℕ)
fields_of Top = codes "debounce" ∷ codes "format" ∷ codes "key" ∷ codes "name" ∷ codes "rate" ∷ []
fields_of (Entry One) = codes "key" ∷ codes "column" ∷ codes "row" ∷ codes "sends" ∷ []
fields_of (Entry Two) =
    codes "key" ∷ codes "column" ∷ codes "row" ∷ codes "sends"
    ∷ codes "fn" ∷ codes "fn_sends" ∷ codes "make_only" ∷ []

unfoldable pub is_field : Level → List ℕ → Bool
is_field level name = list_any (bytes_eq name) (fields_of level)

-- whether the table has a field that its level doesn't know
abbrev pub has_other_field : Level → Members → Bool
has_other_field level no_members = false
has_other_field level (member name value more) = not (is_field level name) || has_other_field level more

unfoldable pub has_field : List ℕ → Members → Bool
has_field name fields = is_some (get_member name fields)

-- what is at a name, if it is of the kind
unfoldable pub text_at : List ℕ → Members → Option (List ℕ)
text_at name fields = option_and_then as_str (get_member name fields)

unfoldable pub whole_at : List ℕ → Members → Option ℤ
whole_at name fields = option_and_then as_integer (get_member name fields)

unfoldable pub list_at : List ℕ → Members → Option Items
list_at name fields = option_and_then as_array (get_member name fields)

unfoldable pub truth_at : List ℕ → Members → Option Bool
truth_at name fields = option_and_then as_bool (get_member name fields)

-- whether something of another kind is at the name
unfoldable pub is_not_text : List ℕ → Members → Bool
is_not_text name fields = has_field name fields && is_none (text_at name fields)

unfoldable pub is_not_whole : List ℕ → Members → Bool
is_not_whole name fields = has_field name fields && is_none (whole_at name fields)

unfoldable pub is_not_list : List ℕ → Members → Bool
is_not_list name fields = has_field name fields && is_none (list_at name fields)

unfoldable pub is_not_truth : List ℕ → Members → Bool
is_not_truth name fields = has_field name fields && is_none (truth_at name fields)

-- the truth value at a name, which is false if none is there
unfoldable pub is_set : List ℕ → Members → Bool
is_set name fields = unwrap_or (truth_at name fields) false

-- a whole number from 0 to 255
abbrev pub byte_in : ℤ → Option ℕ
byte_in (pos n) = if nat_lt n 256 then Some n else None
byte_in (negsuc n) = None

unfoldable pub byte_at : List ℕ → Members → Option ℕ
byte_at name fields = option_and_then byte_in (whole_at name fields)

-- the number of the key that the text at a name names
unfoldable pub key_at : List ℕ → Members → Option ℕ
key_at name fields = option_and_then key_with_name (text_at name fields)
