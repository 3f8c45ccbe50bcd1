-- A test of each place.
use Rattle.std.proofs.Common.{◌≡◌, ℕ, suc, ◌+◌, ◌-◌, ◌<◌, ◌≤◌, ◌||◌, Bool, true, false, ap, sym, ◌∙◌}
use Rattle.std.proofs.Common.{arith, zero, refl, List, [], ◌∷◌, ◌&&◌, nat_le, nat_lt}
use native.Mathlib.Decide.{dec_lt}
use Rattle.std.proofs.Math.Nat.{sub-zero}
use Rattle.std.specs.List.{list_any, range_with_len}
use Rattle.std.proofs.lemmas.Bool.Decides.{nat_tests}
use Rattle.mcs48_asm.specs.Places.{places}

-- some place from one on passes a test exactly if this one does or a later one
pub any_range-step : (f : ℕ → Bool) (n place : ℕ) → place < n
    → list_any f (range_with_len place (n - place)) ≡ (f place || list_any f (range_with_len (place + 1) (n - (place + 1))))
any_range-step f n place h =
    let e : n - place ≡ suc (n - (place + 1)) = omega arith in
    ap (λ k. list_any f (range_with_len place k)) e

-- if this place fails the test, some place passes exactly if a later one does
pub any_range-false : (f : ℕ → Bool) (n place : ℕ) → place < n → f place ≡ false
    → list_any f (range_with_len place (n - place)) ≡ list_any f (range_with_len (place + 1) (n - (place + 1)))
any_range-false f n place h t = any_range-step f n place h ∙ ap (λ b. b || list_any f (range_with_len (place + 1) (n - (place + 1)))) t

-- past the last place none passes
pub any_range-end : (f : ℕ → Bool) (n place : ℕ) → n ≤ place → list_any f (range_with_len place (n - place)) ≡ false
any_range-end f n place h =
    let e : n - place ≡ 0 = omega arith in
    ap (λ k. list_any f (range_with_len place k)) e

-- a test that no place before one passes
pub any_range-skip : (f : ℕ → Bool) (n place : ℕ) → ((k : ℕ) → k < place → f k ≡ false)
    → list_any f (range_with_len 0 n) ≡ list_any f (range_with_len place (n - place))
any_range-skip f n zero before = ap (λ k. list_any f (range_with_len 0 k)) (sym (sub-zero n))
any_range-skip f n (suc place) before =
    let e : place + 1 ≡ suc place = omega arith in
    any_range-skip f n place (λ k l. before k (omega (arith, l)))
    ∙ elim (dec_lt place n) [
      | yes within ↦ any_range-false f n place within (before place (omega arith)) ∙ ap (λ k. list_any f (range_with_len k (n - k))) e
      | no past ↦ any_range-end f n place (omega (arith, past)) ∙ sym (any_range-end f n (suc place) (omega (arith, past)))
    ]

-- a test that no place from one on passes
pub any_range-none : (f : ℕ → Bool) (place n : ℕ) → ((k : ℕ) → place ≤ k → f k ≡ false) → list_any f (range_with_len place n) ≡ false
any_range-none f place zero afterwards = refl
any_range-none f place (suc n) afterwards =
    rw (afterwards place (omega arith)) (any_range-none f (place + 1) n (λ k l. afterwards k (omega (arith, l))))

-- the places of a memory of 2,048 bytes
pub places-of : (n : ℕ) → n ≡ 2048 → range_with_len 0 n ≡ places
unfolding places
places-of n e = ap (range_with_len 0) e

-- a search from place 0 to 2,048 is one over all places
pub any_places : (f : ℕ → Bool) (n : ℕ) → n ≡ 2048 → list_any f (range_with_len 0 n) ≡ list_any f places
any_places f n e = ap (list_any f) (places-of n e)

-- a test of places that gives alike below 2,048
pub any_range-alike : (f g : ℕ → Bool) (place n : ℕ) → ((k : ℕ) → k < place + n → f k ≡ g k)
    → list_any f (range_with_len place n) ≡ list_any g (range_with_len place n)
any_range-alike f g place zero h = refl
any_range-alike f g place (suc n) h =
    rw (h place (omega arith)) (ap (λ b. g place || b) (any_range-alike f g (place + 1) n (λ k l. h k (omega (arith, l)))))

-- tests that say the same of each place find the same
pub any_places-alike : (f g : ℕ → Bool) → ((k : ℕ) → k < 2048 → f k ≡ g k) → list_any f places ≡ list_any g places
unfolding places
any_places-alike f g h = any_range-alike f g 0 2048 h

none : (f : ℕ → Bool) (xs : List ℕ) → ((k : ℕ) → f k ≡ false) → list_any f xs ≡ false
none f [] h = refl
none f (x ∷ xs) h = rw (h x) (none f xs h)

empty : (start place : ℕ) → (nat_le start place && nat_lt place (start + 0)) ≡ false
empty start place = grind (arith, nat_tests)

and_false : (a b c : Bool) → (a && b) ≡ false → (a && b && c) ≡ false
and_false true true c h = absurd (cc)
and_false true false c h = refl
and_false false b c h = refl

-- no place lies among none
pub no_places : (f : ℕ → Bool) (start count : ℕ) → count ≡ 0
    → list_any (λ place. nat_le start place && nat_lt place (start + count) && f place) places ≡ false
no_places f start count e =
    rw e (none (λ place. nat_le start place && nat_lt place (start + 0) && f place) places
    (λ place. and_false (nat_le start place) (nat_lt place (start + 0)) (f place) (empty start place)))
