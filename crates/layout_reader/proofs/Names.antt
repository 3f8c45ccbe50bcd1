-- The names of a table's fields, as its map gives them.
use Rattle.std.proofs.Common.{◌≡◌, ℕ, suc, Bool, false, arith, not, ◌||◌, List, [], ◌∷◌, map}
use Rattle.std.proofs.Common.{String, Global, string_bytes, length, eqb, refl, ap}
use Rattle.std.specs.List.{list_any}
use Rattle.std.proofs.lemmas.Bool.Decides.{nat_tests}
use Rattle.toml.specs.declared.value.Value.{Value}
use Rattle.toml.specs.View.{members_view, items_view}
use Rattle.layout_reader.specs.declared.fields.Level.{Level}
use Rattle.layout_reader.specs.Fields.{is_field, has_other_field}
use Rattle.layout_reader.specs.TopLevel.{is_empty}

abbrev pub is_other : Level → String Global → Bool
is_other level name = not (is_field level (string_bytes name))

-- a table has a field of another name exactly if its map has one
pub other_names : (level : Level) (es : List (String Global × Value))
    → list_any (is_other level) (map (λ e. e.0) es) ≡ has_other_field level (members_view es)
other_names level [] = refl
other_names level (e ∷ es) = ap (λ b. not (is_field level (string_bytes e.0)) || b) (other_names level es)

not_zero : (n : ℕ) → false ≡ eqb (suc n) 0
not_zero n = grind (arith, nat_tests)

-- a list of elements is empty where its length is 0
pub is_empty_view : (elements : List Value) → is_empty (items_view elements) ≡ eqb (length elements) 0
is_empty_view [] = refl
is_empty_view (e ∷ es) = not_zero (length es)
