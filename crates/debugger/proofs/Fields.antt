-- The fields of a line.
use Rattle.std.proofs.Common.{◌≡◌, ℕ, List, [], ◌∷◌, None, refl}
use Rattle.text_lines.specs.Fields.{HasMore, pieces}
use Rattle.text_lines.proofs.Afterwards.{two_pieces}
use Rattle.debugger.specs.Commands.{show_from}

not_alone : (first : List ℕ) (ps : List (List ℕ)) → HasMore (first ∷ ps) → show_from ps ≡ None
not_alone first [] h = absurd h
not_alone first (p ∷ ps) h = refl

-- after a space is a field
pub field_after : (mark : ℕ) (text : List ℕ) → show_from (pieces mark text) ≡ None
field_after mark text = not_alone [] (pieces mark text) (two_pieces mark [] text)
