-- A text and its first field.
use Rattle.std.proofs.Common.{◌≡◌, ℕ, ◌<◌, ◌≤◌, ◌-◌, true, false, List, [], ◌∷◌, length, take, drop, get_or, refl, ap, sym, ◌∙◌, arith}
use Rattle.std.specs.List.{slice_split, onto_first}
use Rattle.std.proofs.lemmas.List.{take_all}
use Rattle.text_lines.specs.Fields.{fields, is_blank, is_field, begins_blank}

-- a blank before a text parts no field off
pub fields-blank : (first : ℕ) (others : List ℕ) → is_blank first ≡ true → fields (first ∷ others) ≡ fields others
unfolding fields
fields-blank first others blank = rw blank refl

-- an empty text has no field
pub fields-empty : (text : List ℕ) → length text ≡ 0 → fields text ≡ []
unfolding fields
fields-empty [] h = refl
fields-empty (x ∷ text) h = absurd (omega arith)

-- a piece that begins with no blank is a field, where it is the first of a text that isn't empty
onto_first-field : (first : ℕ) (front : List ℕ) (parts rest : List (List ℕ)) → onto_first first parts ≡ front ∷ rest → is_field front ≡ true
onto_first-field first front [] rest h = grind arith
onto_first-field first front (part ∷ parts) rest h = grind arith

first_piece : (text front : List ℕ) (rest : List (List ℕ)) → begins_blank text ≡ false → 0 < length text
    → slice_split is_blank text ≡ front ∷ rest → is_field front ≡ true
first_piece [] front rest solid some split = absurd (omega arith)
first_piece (first ∷ others) front rest solid some split =
    onto_first-field first front (slice_split is_blank others) rest (rw solid at split)

-- the first field and the others
pub fields-first : (text front rest : List ℕ) → begins_blank text ≡ false → 0 < length text
    → slice_split is_blank text ≡ front ∷ slice_split is_blank rest → fields text ≡ front ∷ fields rest
unfolding fields
fields-first text front rest solid some split = rw split (rw (first_piece text front (slice_split is_blank rest) solid some split) refl)

-- a text that is one field
pub fields-last : (text : List ℕ) → begins_blank text ≡ false → 0 < length text
    → slice_split is_blank text ≡ text ∷ [] → fields text ≡ text ∷ []
unfolding fields
fields-last text solid some split = rw split (rw (first_piece text text [] solid some split) refl)

-- a blank at the start goes
pub fields-rest : (text : List ℕ) → 1 ≤ length text → is_blank (get_or text 0 0) ≡ true
    → fields text ≡ fields (take (length text - 1) (drop 1 text))
fields-rest [] some blank = absurd (omega arith)
fields-rest (first ∷ others) some blank = fields-blank first others blank
    ∙ ap fields (sym (take_all (length (first ∷ others) - 1) others (omega arith)))
