-- A text and its first line.
use Rattle.std.proofs.Common.{◌≡◌, ℕ, ◌<◌, ◌==◌, Bool, true, false, cond, List, [], ◌∷◌, refl, ap, sym, ◌∙◌, arith}
use Rattle.std.specs.List.{slice_split, onto_first}
use Rattle.std.specs.Str.Lines.{lines, lines_of_parts, strip_carriage_return}

-- a list of lists with a first element
pub record IsCons (parts : List (List ℕ)) : Type 0 where
  pub first : List ℕ
  pub rest : List (List ℕ)
  pub is : parts ≡ first ∷ rest

onto_first-is_cons : (c : ℕ) (parts : List (List ℕ)) → IsCons (onto_first c parts)
onto_first-is_cons c [] = record { first = c ∷ []; rest = []; is = refl }
onto_first-is_cons c (part ∷ parts) = record { first = c ∷ part; rest = parts; is = refl }

cond-is_cons : (b : Bool) (c : ℕ) (parts : List (List ℕ)) → IsCons (cond b ([] ∷ parts) (onto_first c parts))
cond-is_cons true c parts = record { first = []; rest = parts; is = refl }
cond-is_cons false c parts = onto_first-is_cons c parts

-- a text has a first part
pub split-is_cons : (p : ℕ → Bool) (xs : List ℕ) → IsCons (slice_split p xs)
split-is_cons p [] = record { first = []; rest = []; is = refl }
split-is_cons p (x ∷ xs) = cond-is_cons (p x) x (slice_split p xs)

-- a line and the lines after it
pub lines-first : (text front rest : List ℕ)
    → slice_split (λ c. c == 10) text ≡ front ∷ slice_split (λ c. c == 10) rest → lines text ≡ strip_carriage_return front ∷ lines rest
lines-first text front rest split =
    let parts = split-is_cons (λ c. c == 10) rest in
    ap lines_of_parts (split ∙ ap (λ more. front ∷ more) parts.is)
    ∙ sym (ap (λ more. strip_carriage_return front ∷ lines_of_parts more) parts.is)
