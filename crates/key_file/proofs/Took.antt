-- Lists of which one element after another was taken.
use Rattle.std.proofs.Common.{◌≡◌, ◌<◌, ℕ, zero, suc, ◌+◌, List, [], ◌∷◌, ◌++◌, length, take, None, Some, refl, ap, subst, sym, arith}
use Rattle.std.specs.List.{slice_get}

-- the first elements of a list and the next one are one more of the first
pub take_one_more : {X : Type 0} (xs : List X) (n : ℕ) (x : X) → Some x ≡ slice_get xs n → take n xs ++ x ∷ [] ≡ take (n + 1) xs
take_one_more [] n x h = absurd cc
take_one_more (y ∷ ys) zero x h = let same : x ≡ y = cc h in ap (λ v. v ∷ []) same
take_one_more (y ∷ ys) (suc n) x h =
    let e : suc n + 1 ≡ suc (n + 1) = omega arith in
    subst (λ k. y ∷ (take n ys ++ x ∷ []) ≡ take k (y ∷ ys)) (sym e) (ap (λ v. y ∷ v) (take_one_more ys n x h))

-- all, where none is left
pub take_to_end : {X : Type 0} (xs : List X) (n : ℕ) → None ≡ slice_get xs n → take n xs ≡ xs
take_to_end [] zero h = refl
take_to_end [] (suc n) h = refl
take_to_end (y ∷ ys) zero h = absurd cc
take_to_end (y ∷ ys) (suc n) h = ap (λ v. y ∷ v) (take_to_end ys n h)

-- an element that was found at a place shows that the list goes so far
pub was_there : {X : Type 0} (xs : List X) (n : ℕ) (x : X) → Some x ≡ slice_get xs n → n < length xs
was_there [] n x h = absurd cc
was_there (y ∷ ys) zero x h = omega arith
was_there (y ∷ ys) (suc n) x h = let w = was_there ys n x h in omega (arith, w)
