-- Places for a list's items, one after another, and the items read from them.
use Rattle.std.proofs.Common.{◌≡◌, ◌<◌, ◌-◌, ℕ, zero, suc, true, List, ◌∷◌, ◌++◌, drop, take, length, length-drop}
use Rattle.std.proofs.Common.{ap, ◌∙◌, append_assoc, arith}
use Rattle.std.specs.Prelude.{nat_lt, slice_index}
use Rattle.std.proofs.lemmas.List.{take_all}
use Rattle.bits.proofs.Every.{and-right}
use Rattle.joint_bytes.specs.Lists.{edge_in, edges_in, have_places, item_in, items_in}

-- a piece, and the rest after it
pub more : {X : Type 0} (old mid new piece rest whole : List X) → mid ≡ old ++ piece → new ≡ mid ++ rest → piece ++ rest ≡ whole
    → new ≡ old ++ whole
more old mid new piece rest whole a b c = b ∙ ap (λ l. l ++ rest) a ∙ append_assoc old piece rest ∙ ap (λ l. old ++ l) c

-- what is left of a list without its first items
pub later_is : {X : Type 0} (k : ℕ) (xs : List X) → take (length xs - k) (drop k xs) ≡ drop k xs
later_is k xs = let n = length-drop k xs in take_all (length xs - k) (drop k xs) (omega (arith, n))

-- the number before the one after n is n
pub one_less : (n : ℕ) → suc n - 1 ≡ n
one_less n = omega arith

-- the edges read from bytes are the first edge and then those read from the bytes after its ten
pub edges_step : (n : ℕ) (s : List ℕ) → 0 < n → edge_in s ∷ edges_in (n - 1) (drop 10 s) ≡ edges_in n s
edges_step zero s l = absurd (omega (arith, l))
edges_step (suc n) s l = ap (λ k. edge_in s ∷ edges_in k (drop 10 s)) (one_less n)

-- the items read from bytes are the first item and then those read from the bytes after its eleven
pub items_step : (n : ℕ) (s : List ℕ) → 0 < n → item_in s ∷ items_in (n - 1) (drop 11 s) ≡ items_in n s
items_step zero s l = absurd (omega (arith, l))
items_step (suc n) s l = ap (λ k. item_in s ∷ items_in k (drop 11 s)) (one_less n)

-- the edges after the first one are at places too
pub places_later : (n : ℕ) (s : List ℕ) → 0 < n → have_places n s ≡ true → have_places (n - 1) (drop 10 s) ≡ true
places_later zero s l h = absurd (omega (arith, l))
places_later (suc n) s l h =
    ap (λ k. have_places k (drop 10 s)) (one_less n) ∙ and-right (nat_lt (slice_index s 8) 96) (have_places n (drop 10 s)) h
