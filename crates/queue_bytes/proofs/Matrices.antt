-- The keys of a queue as a matrix.
use Rattle.std.proofs.Common.{◌≡◌, ◌<◌, ℕ, zero, suc, ◌+◌, Bool, false, List, [], ◌∷◌, ◌++◌, length, take, drop, get_or, set}
use Rattle.std.proofs.Common.{refl, ap, sym, ◌∙◌, arith}
use Rattle.std.proofs.lemmas.List.{append-nil, drop_all, take_all}

-- a key more of the matrix is as in the list
made : (keys up : List Bool) (n : ℕ) → n < length keys → n < length up
    → set (take n keys ++ drop n up) n (get_or keys n false) ≡ take (suc n) keys ++ drop (suc n) up
made [] up n l m = absurd (omega (arith, l))
made (k ∷ keys) [] n l m = absurd (omega (arith, m))
made (k ∷ keys) (u ∷ up) zero l m = refl
made (k ∷ keys) (u ∷ up) (suc n) l m = ap (λ s. k ∷ s) (made keys up n (omega (arith, l)) (omega (arith, m)))

-- with one key more the first n + 1 are as they are to be, and the others as they were
pub key_made : (keys up old new : List Bool) (n place : ℕ) (down : Bool) → n < length keys → n < length up
    → old ≡ take n keys ++ drop n up → place ≡ n → down ≡ get_or keys place false → new ≡ set old place down
    → new ≡ take (n + 1) keys ++ drop (n + 1) up
key_made keys up old new n place down l m was at is e =
    let on : n + 1 ≡ suc n = omega arith in
    e ∙ ap (λ s. set s place down) was ∙ ap (λ b. set (take n keys ++ drop n up) place b) is
    ∙ ap (λ p. set (take n keys ++ drop n up) p (get_or keys p false)) at ∙ made keys up n l m
    ∙ ap (λ k. take k keys ++ drop k up) (sym on)

-- all keys of the matrix are as in the list
pub all_made : (keys up matrix : List Bool) (n : ℕ) → n ≡ 96 → length keys ≡ 96 → length up ≡ 96
    → matrix ≡ take n keys ++ drop n up → matrix ≡ keys
all_made keys up matrix n e k u was =
    let left : take n keys ≡ keys = take_all n keys (omega (arith, e, k)) in
    let none : drop n up ≡ [] = drop_all n up (omega (arith, e, u)) in
    was ∙ ap (λ s. s ++ drop n up) left ∙ ap (λ s. keys ++ s) none ∙ append-nil keys
