-- Pieces one after another.
use Rattle.std.proofs.Common.{◌≡◌, ℕ, List, ◌++◌, ap, ◌∙◌}

-- a piece more, of which and of what was before it is known what they are
pub add : {old new piece : List ℕ} (whole part : List ℕ) → new ≡ old ++ piece → old ≡ whole → piece ≡ part → new ≡ whole ++ part
add {old} {new} {piece} whole part a b c = a ∙ ap (λ l. l ++ piece) b ∙ ap (λ l. whole ++ l) c
