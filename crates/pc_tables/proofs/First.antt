-- The first place in a list at which a test passes.
use Rattle.std.proofs.Common.{◌≡◌, ℕ, ◌<◌, Bool, true, false, List, length, get_or, Some, None, position, arith}
use Rattle.std.proofs.lemmas.List.Sums.{position_or_len_is}
use Rattle.std.proofs.lemmas.Bool.Decides.{nat_tests}

-- if a test fails before a place and passes there, this is the first place at which it passes
pub position-found : {X : Type 0} (p : X → Bool) (xs : List X) (i : ℕ) (d : X) → i < length xs
    → ((k : ℕ) → k < i → p (get_or xs k d) ≡ false) → p (get_or xs i d) ≡ true → position p xs ≡ Some i
position-found p xs i d within before here =
    let e = position_or_len_is p xs i d (omega arith) before (λ _. here) in rw e (grind (arith, nat_tests))

-- if a test fails at each place, there is none at which it passes
pub position-none : {X : Type 0} (p : X → Bool) (xs : List X) (d : X)
    → ((k : ℕ) → k < length xs → p (get_or xs k d) ≡ false) → position p xs ≡ None
position-none p xs d each =
    let e = position_or_len_is p xs (length xs) d (omega arith) each (λ l. absurd (omega arith)) in rw e (grind (arith, nat_tests))
