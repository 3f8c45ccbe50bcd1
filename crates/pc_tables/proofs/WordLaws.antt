-- Laws of the word table.
use Rattle.std.proofs.Common.{◌≡◌, ℕ, ◌<◌, Bool, true, false, not, is_some, refl}
use Rattle.pc_tables.specs.Keys.{keys}
use Rattle.pc_tables.specs.Words.{words, letter_on, words_at, has_words}
use Rattle.bits.proofs.Every.{at_each}

abbrev same : Bool → Bool → Bool
same true b = b
same false b = not b

same-is : (a b : Bool) → same a b ≡ true → a ≡ b
same-is true true h = refl
same-is true false h = absurd cc
same-is false true h = absurd cc
same-is false false h = refl

-- which bytes have words
pub known : (scan : ℕ) → scan < 256 → is_some (words_at scan) ≡ has_words scan
unfolding keys words letter_on
known scan l = same-is _ _ (at_each (λ scan. same (is_some (words_at scan)) (has_words scan)) 256 refl scan l)
