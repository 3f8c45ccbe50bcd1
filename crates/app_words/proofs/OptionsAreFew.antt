-- Words after a command's names that are no options.
use Rattle.std.proofs.Common.{◌≡◌, ◌≤◌, ℕ, List, [], ◌∷◌, length, map, None, refl, arith}
use Rattle.app_words.specs.Words.{board_options_of}

-- `board` has three words of options at most
pub four_are_none : {X : Type 0} (f : X → List ℕ) (words : List X) → 4 ≤ length words → None ≡ board_options_of (map f words)
unfolding board_options_of
four_are_none f [] more = absurd (omega (arith, more))
four_are_none f (a ∷ []) more = absurd (omega (arith, more))
four_are_none f (a ∷ b ∷ []) more = absurd (omega (arith, more))
four_are_none f (a ∷ b ∷ c ∷ []) more = absurd (omega (arith, more))
four_are_none f (a ∷ b ∷ c ∷ d ∷ words) more = refl
