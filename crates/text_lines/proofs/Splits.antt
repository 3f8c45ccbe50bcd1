-- A text and its first mark.
use Rattle.std.proofs.Common.{◌≡◌, ℕ, ◌+◌, ◌-◌, ◌<◌, ◌≤◌, Bool, true, false, cond, ltb, List, [], ◌∷◌}
use Rattle.std.proofs.Common.{length, take, drop, Some, None, refl, ap, sym, ◌∙◌, arith}
use Rattle.std.specs.Prelude.{position}
use Rattle.std.specs.List.{slice_split, position_or_len}
use Rattle.std.proofs.lemmas.Bool.{ltb-false}
use Rattle.std.proofs.lemmas.List.{take_all, length-drop}
use Rattle.std.proofs.lemmas.List.Sums.{fails_before_first}
use Rattle.std.proofs.lemmas.List.Splits.{slice_split_none, slice_split_first}
use borrow.Author.Tests.{ltb-true}

some_of : (b : Bool) (x i : ℕ) → cond b (Some x) None ≡ Some i → (b ≡ true) × (x ≡ i)
some_of true x i h = (refl, cc)
some_of false x i h = absurd (cc)

none_of : (b : Bool) (x : ℕ) → cond b (Some x) None ≡ None → b ≡ false
none_of true x h = absurd (cc)
none_of false x h = refl

-- the place of the first mark
pub place_is : (p : ℕ → Bool) (xs : List ℕ) (i : ℕ) → position p xs ≡ Some i → (position_or_len p xs < length xs)
    × (position_or_len p xs ≡ i)
place_is p xs i h =
    let both = some_of (ltb (position_or_len p xs) (length xs)) (position_or_len p xs) i h in
    (ltb-true (position_or_len p xs) (length xs) both.0, both.1)

-- the first mark of a text is in the text
pub is_within : (p : ℕ → Bool) (xs : List ℕ) (i : ℕ) → position p xs ≡ Some i → i < length xs
is_within p xs i h = let both = place_is p xs i h in omega (arith, both.0, both.1)

-- a text without a mark goes on to its end
pub none_passes : (p : ℕ → Bool) (xs : List ℕ) → position p xs ≡ None → length xs ≤ position_or_len p xs
none_passes p xs h = ltb-false (position_or_len p xs) (length xs)
    (none_of (ltb (position_or_len p xs) (length xs)) (position_or_len p xs) h)

-- a text without a mark is one part
pub split_none : (p : ℕ → Bool) (xs : List ℕ) → position p xs ≡ None → slice_split p xs ≡ xs ∷ []
split_none p xs h = slice_split_none p xs
    (λ k d within. let all = none_passes p xs h in fails_before_first p xs k d (omega (arith, all, within)))

tail_whole : (xs : List ℕ) (n : ℕ) → take (length xs - n) (drop n xs) ≡ drop n xs
tail_whole xs n = take_all (length xs - n) (drop n xs) (omega (arith, length-drop n xs))

-- a text with a mark is the part before it, and then the parts of what follows
pub split_some : (p : ℕ → Bool) (xs : List ℕ) (i : ℕ) → position p xs ≡ Some i
    → slice_split p xs ≡ take i xs ∷ slice_split p (take (length xs - (i + 1)) (drop (i + 1) xs))
split_some p xs i h =
    let both = place_is p xs i h in
    slice_split_first p xs 0 both.0 ∙ ap (λ n. take n xs ∷ slice_split p (drop (n + 1) xs)) both.1
    ∙ ap (λ rest. take i xs ∷ slice_split p rest) (sym (tail_whole xs (i + 1)))
