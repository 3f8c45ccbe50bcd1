-- What a sink has after one piece and then another.
use Rattle.std.proofs.Common.{◌≡◌, ◌≤◌, ℕ, zero, suc, ◌+◌, List, [], ◌∷◌, ◌++◌, length, take, Some, None}
use Rattle.std.proofs.Common.{refl, ap, sym, subst, ◌∙◌, arith, append_assoc, length-append}
use Rattle.std.proofs.lemmas.List.{append-nil, take_all}
use Rattle.std.specs.declared.option.Option.{Option}
use Rattle.io_edge.specs.Sink.{Takes}
use Rattle.io_edge.specs.Said.{TakesAll, TakesPart}

-- a beginning of two pieces that ends in the first, or in the second
take_first : (n : ℕ) (xs ys : List ℕ) → n ≤ length xs → take n (xs ++ ys) ≡ take n xs
take_first zero xs ys l = refl
take_first (suc n) [] ys l = absurd (omega (arith, l))
take_first (suc n) (x ∷ xs) ys l = ap (λ v. x ∷ v) (take_first n xs ys (omega (arith, l)))

take_second : (n : ℕ) (xs ys : List ℕ) → take (length xs + n) (xs ++ ys) ≡ xs ++ take n ys
take_second n [] ys = ap (λ k. take k ys) (omega arith)
take_second n (x ∷ xs) ys =
    let e : suc (length xs) + n ≡ suc (length xs + n) = omega arith in
    ap (λ k. take k (x ∷ xs ++ ys)) e ∙ ap (λ v. x ∷ v) (take_second n xs ys)

-- the first piece whole, and then n bytes of the second
takes_then : (a b c : Option (List ℕ)) (xs ys : List ℕ) (n : ℕ) → TakesAll a b xs → Takes b c ys n → Takes a c (xs ++ ys) (length xs + n)
takes_then (Some before) b c xs ys n first second =
    let have : b ≡ Some (before ++ xs) = first ∙ ap (λ v. Some (before ++ v)) (take_all (length xs) xs (omega arith)) in
    let more : Takes (Some (before ++ xs)) c ys n = subst (λ (v : Option (List ℕ)). Takes v c ys n) have second in
    more ∙ ap (λ v. Some v) (append_assoc before xs (take n ys) ∙ ap (λ v. before ++ v) (sym (take_second n xs ys)))
takes_then None b c xs ys n first second = subst (λ (v : Option (List ℕ)). Takes v c ys n) first second

-- a sink that took all of a text, and then all of another, took all of both
pub all_then_all : (a b c : Option (List ℕ)) (xs ys : List ℕ) → TakesAll a b xs → TakesAll b c ys → TakesAll a c (xs ++ ys)
all_then_all a b c xs ys first second =
    subst (λ (n : ℕ). Takes a c (xs ++ ys) n) (sym (length-append xs ys)) (takes_then a b c xs ys (length ys) first second)

-- a sink that took all of a text, and then a part of another, took a part of both
pub all_then_part : (a b c : Option (List ℕ)) (xs ys : List ℕ) → TakesAll a b xs → TakesPart b c ys → TakesPart a c (xs ++ ys)
all_then_part a b c xs ys first part =
    let long = length-append xs ys in
    let some = part.1 in
    (length xs + part.0, omega (arith, long, some), takes_then a b c xs ys part.0 first part.2)

takes_less : (a c : Option (List ℕ)) (xs ys : List ℕ) (n : ℕ) → n ≤ length xs → Takes a c xs n → Takes a c (xs ++ ys) n
takes_less (Some before) c xs ys n l h = h ∙ ap (λ v. Some (before ++ v)) (sym (take_first n xs ys l))
takes_less None c xs ys n l h = h

-- a part of a text is a part of that text with more after it
pub part_of_more : (a c : Option (List ℕ)) (xs ys : List ℕ) → TakesPart a c xs → TakesPart a c (xs ++ ys)
part_of_more a c xs ys part =
    let long = length-append xs ys in
    let some = part.1 in
    (part.0, omega (arith, long, some), takes_less a c xs ys part.0 part.1 part.2)

-- nothing is taken of nothing
pub all_of_none : (a : Option (List ℕ)) → TakesAll a a []
all_of_none (Some before) = ap (λ v. Some v) (sym (append-nil before))
all_of_none None = refl
