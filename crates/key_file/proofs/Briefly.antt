-- What the rules ask of the events so far, with one event more.
use Rattle.std.proofs.Common.{◌≡◌, ◌≤◌, ◌<◌, ℕ, zero, suc, ◌+◌, ◌-◌, true, false, List, [], ◌∷◌, ◌++◌, length}
use Rattle.std.proofs.Common.{get_or, replicate, None, Some, refl, ap, sym, ◌∙◌, arith, length-append}
use Rattle.std.specs.Prelude.{nat_le, if◌then◌else◌}
use Rattle.std.specs.List.{slice_get}
use Rattle.std.specs.declared.option.Option.{Option}
use Rattle.std.proofs.lemmas.Bool.Decides.{nat_tests}
use Rattle.board_terms.specs.declared.event.Edge.{Edge}
use Rattle.key_file.specs.Histories.{last_edge}
use Rattle.key_file.specs.Briefs.{from_end, latest_of}

-- the elements before one more, and that one
get-before : (xs : List Edge) (e : Edge) (k : ℕ) → k < length xs → slice_get (xs ++ e ∷ []) k ≡ slice_get xs k
get-before [] e k within = absurd (omega (arith, within))
get-before (x ∷ xs) e zero within = refl
get-before (x ∷ xs) e (suc k) within = get-before xs e k (omega (arith, within))

get-last : (xs : List Edge) (e : Edge) → slice_get (xs ++ e ∷ []) (length xs) ≡ Some e
get-last [] e = refl
get-last (x ∷ xs) e = get-last xs e

-- the last edges with one edge more
from_end-one : (xs : List Edge) (e : Edge) → from_end 1 (xs ++ e ∷ []) ≡ Some e
from_end-one xs e =
    let len : length (xs ++ e ∷ []) ≡ length xs + 1 = length-append xs (e ∷ []) in
    let there : nat_le 1 (length (xs ++ e ∷ [])) ≡ true = grind (arith, nat_tests, len) in
    let place : length (xs ++ e ∷ []) - 1 ≡ length xs = omega (arith, len) in
    ap (λ b. if b then slice_get (xs ++ e ∷ []) (length (xs ++ e ∷ []) - 1) else None) there
    ∙ ap (λ k. slice_get (xs ++ e ∷ []) k) place ∙ get-last xs e

from_end-more : (n m : ℕ) (xs : List Edge) (e : Edge) → 1 ≤ n → m ≡ n + 1 → from_end m (xs ++ e ∷ []) ≡ from_end n xs
from_end-more n m xs e some next =
    let len : length (xs ++ e ∷ []) ≡ length xs + 1 = length-append xs (e ∷ []) in
    let place : length (xs ++ e ∷ []) - m ≡ length xs - n = omega (arith, len, next) in
    elim (nat_le n (length xs)) as (λ b. nat_le n (length xs) ≡ b
    → from_end m (xs ++ e ∷ []) ≡ (if b then slice_get xs (length xs - n) else None)) [
      | true ↦ λ h.
          let there : nat_le m (length (xs ++ e ∷ [])) ≡ true = grind (arith, nat_tests, len, next, h) in
          let enough : n ≤ length xs = grind (arith, nat_tests, h) in
          let within : length xs - n < length xs = omega (arith, some, enough) in
          ap (λ b. if b then slice_get (xs ++ e ∷ []) (length (xs ++ e ∷ []) - m) else None) there
          ∙ ap (λ k. slice_get (xs ++ e ∷ []) k) place ∙ get-before xs e (length xs - n) within
      | false ↦ λ h.
          let few : nat_le m (length (xs ++ e ∷ [])) ≡ false = grind (arith, nat_tests, len, next, h) in
          ap (λ b. if b then slice_get (xs ++ e ∷ []) (length (xs ++ e ∷ []) - m) else None) few
    ] refl

-- with one edge more the last four edges end with it
pub latest-push : (xs : List Edge) (e : Edge)
    → latest_of (xs ++ e ∷ []) ≡ from_end 3 xs ∷ from_end 2 xs ∷ from_end 1 xs ∷ Some e ∷ []
latest-push xs e =
    ap (λ a. a ∷ from_end 3 (xs ++ e ∷ []) ∷ from_end 2 (xs ++ e ∷ []) ∷ from_end 1 (xs ++ e ∷ []) ∷ [])
    (from_end-more 3 4 xs e (omega arith) refl)
    ∙ ap (λ a. from_end 3 xs ∷ a ∷ from_end 2 (xs ++ e ∷ []) ∷ from_end 1 (xs ++ e ∷ []) ∷ []) (from_end-more 2 3 xs e (omega arith) refl)
    ∙ ap (λ a. from_end 3 xs ∷ from_end 2 xs ∷ a ∷ from_end 1 (xs ++ e ∷ []) ∷ []) (from_end-more 1 2 xs e (omega arith) refl)
    ∙ ap (λ a. from_end 3 xs ∷ from_end 2 xs ∷ from_end 1 xs ∷ a ∷ []) (from_end-one xs e)

-- where no key has an edge, none has a last one
pub none_at : (n place : ℕ) → get_or (replicate n None) place None ≡ last_edge place []
none_at zero place = refl
none_at (suc n) zero = refl
none_at (suc n) (suc place) = none_at n place

-- the four that were kept, moved by one, are the last four with the new edge
pub latest_shifted : (xs : List Edge) (latest : List (Option Edge)) (e : Edge) → latest ≡ latest_of xs
    → get_or latest 1 None ∷ get_or latest 2 None ∷ get_or latest 3 None ∷ Some e ∷ [] ≡ latest_of (xs ++ e ∷ [])
latest_shifted xs latest e h =
    ap (λ v. get_or v 1 None ∷ get_or v 2 None ∷ get_or v 3 None ∷ Some e ∷ []) h ∙ sym (latest-push xs e)
