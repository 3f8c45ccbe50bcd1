-- Each text has a piece.
use Rattle.std.proofs.Common.{cond, ℕ, List, [], ◌∷◌, Bool, true, false, ◌==◌}
use Rattle.std.specs.List.{onto_first}
use Rattle.text_lines.specs.Fields.{HasMore, pieces}

onto_more : (first : List ℕ) (x : ℕ) (ps : List (List ℕ)) → HasMore (first ∷ onto_first x ps)
onto_more first x [] = tt
onto_more first x (p ∷ ps) = tt

piece_by : (first : List ℕ) (x : ℕ) (b : Bool) (ps : List (List ℕ)) → HasMore (first ∷ cond b ([] ∷ ps) (onto_first x ps))
piece_by first x true ps = tt
piece_by first x false ps = onto_more first x ps

-- so after a mark is one more
pub two_pieces : (mark : ℕ) (first text : List ℕ) → HasMore (first ∷ pieces mark text)
two_pieces mark first [] = tt
two_pieces mark first (x ∷ xs) = piece_by first x (x == mark) (pieces mark xs)
