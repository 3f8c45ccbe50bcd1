-- What is handed in next, after what was handed in and isn't made yet.
use Rattle.std.proofs.Common.{◌≡◌, ◌≤◌, ℕ, zero, suc, ◌+◌, ◌-◌, List, [], ◌∷◌, ◌++◌, length, take, drop, None, Some}
use Rattle.std.proofs.Common.{refl, ap, sym, ◌∙◌, arith, append_assoc}
use Rattle.std.specs.List.{slice_get}
use Rattle.std.proofs.lemmas.List.{length-drop, length-take, take_all}

-- a list in two pieces
take_drop : {X : Type 0} (n : ℕ) (xs : List X) → take n xs ++ drop (length (take n xs)) xs ≡ xs
take_drop zero xs = refl
take_drop (suc n) [] = refl
take_drop (suc n) (x ∷ xs) = ap (λ v. x ∷ v) (take_drop n xs)

-- after so many of the first piece
drop_first : {X : Type 0} (k : ℕ) (xs ys : List X) → k ≤ length xs → drop k (xs ++ ys) ≡ drop k xs ++ ys
drop_first zero xs ys within = refl
drop_first (suc k) [] ys within = absurd (omega (arith, within))
drop_first (suc k) (x ∷ xs) ys within = drop_first k xs ys (omega (arith, within))

drop_nil : {X : Type 0} (n : ℕ) (xs : List X) → xs ≡ [] → drop n xs ≡ []
drop_nil zero xs e = e
drop_nil (suc n) [] e = refl
drop_nil (suc n) (x ∷ xs) e = absurd (cc e)

drop_again : {X : Type 0} (m n k : ℕ) (xs : List X) → m + n ≡ k → drop n (drop m xs) ≡ drop k xs
drop_again zero n k xs e = let f : n ≡ k = omega (arith, e) in ap (λ (i : ℕ). drop i xs) f
drop_again (suc m) n k [] e = drop_nil n [] refl ∙ sym (drop_nil k [] refl)
drop_again (suc m) n zero (x ∷ xs) e = absurd (omega (arith, e))
drop_again (suc m) n (suc k) (x ∷ xs) e = drop_again m n k xs (omega (arith, e))

-- of the next n after so many, k are made: those that are left, and behind them what wasn't handed in, are the rest
pub rest_after : {X : Type 0} (n made k taken : ℕ) (all due : List X)
    → due ≡ take n (drop made all) → taken ≡ made + length due → k ≤ length due
    → drop k due ++ drop taken all ≡ drop (made + k) all
rest_after n made k taken all due next given within =
    let left = drop made all in
    let afterwards : drop taken all ≡ drop (length due) left = sym (drop_again made (length due) taken all (sym given)) in
    ap (λ v. drop k due ++ v) afterwards
    ∙ sym (drop_first k due (drop (length due) left) within)
    ∙ ap (λ v. drop k (v ++ drop (length v) left)) next
    ∙ ap (drop k) (take_drop n left)
    ∙ drop_again made k (made + k) all refl

-- those of them that are made are there
pub next_within : {X : Type 0} (n made k : ℕ) (all due : List X)
    → due ≡ take n (drop made all) → k ≤ length due → made ≤ length all → made + k ≤ length all
next_within n made k all due next within there =
    let a : length due ≡ length (take n (drop made all)) = ap length next in
    let b = length-take n (drop made all) in
    let d : length (drop made all) ≡ length all - made = length-drop made all in
    omega (arith, a, b, d, within, there)

-- the end of a list, as its range
pub tail_whole : {X : Type 0} (xs : List X) (n : ℕ) → take (length xs - n) (drop n xs) ≡ drop n xs
tail_whole xs n = let l = length-drop n xs in take_all (length xs - n) (drop n xs) (omega (arith, l))

-- one more is taken of what is left
first_after : {X : Type 0} (all : List X) (n : ℕ) (x : X) → Some x ≡ slice_get all n → x ∷ drop (n + 1) all ≡ drop n all
first_after [] n x h = absurd cc
first_after (y ∷ ys) zero x h = let same : x ≡ y = cc h in ap (λ v. v ∷ ys) same
first_after (y ∷ ys) (suc n) x h =
    let e : suc n + 1 ≡ suc (n + 1) = omega arith in
    ap (λ k. x ∷ drop k (y ∷ ys)) e ∙ first_after ys n x h

-- the next event, moved to those in hand, leaves what is in hand and what follows as it was
pub one_more_after : {X : Type 0} (next all : List X) (n : ℕ) (x : X)
    → Some x ≡ slice_get all n → (next ++ x ∷ []) ++ drop (n + 1) all ≡ next ++ drop n all
one_more_after next all n x h = append_assoc next (x ∷ []) (drop (n + 1) all) ∙ ap (λ v. next ++ v) (first_after all n x h)

-- nothing is left to take
pub none_afterwards : {X : Type 0} (all : List X) (n : ℕ) → None ≡ slice_get all n → drop n all ≡ []
none_afterwards [] n h = drop_nil n [] refl
none_afterwards (y ∷ ys) zero h = absurd cc
none_afterwards (y ∷ ys) (suc n) h = none_afterwards ys n h

-- a list that has room is its own beginning, and one that is full is that of any that begins with it
pub take_all_of : {X : Type 0} (n : ℕ) (xs ys : List X) → ys ≡ [] → length xs ≤ n → xs ≡ take n (xs ++ ys)
take_all_of zero [] ys none room = refl
take_all_of zero (x ∷ xs) ys none room = absurd (omega (arith, room))
take_all_of (suc n) [] [] none room = refl
take_all_of (suc n) [] (y ∷ ys) none room = absurd (cc none)
take_all_of (suc n) (x ∷ xs) ys none room = ap (λ v. x ∷ v) (take_all_of n xs ys none (omega (arith, room)))

-- the first n of a list of n and what follows are the list
pub take_full : {X : Type 0} (n : ℕ) (xs ys : List X) → length xs ≡ n → xs ≡ take n (xs ++ ys)
take_full zero [] ys full = refl
take_full zero (x ∷ xs) ys full = absurd (omega (arith, full))
take_full (suc n) [] ys full = absurd (omega (arith, full))
take_full (suc n) (x ∷ xs) ys full = ap (λ v. x ∷ v) (take_full n xs ys (omega (arith, full)))
