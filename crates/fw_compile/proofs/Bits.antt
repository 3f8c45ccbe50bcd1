-- Bits put together into a byte, and read from it.
use Rattle.std.proofs.Common.{◌≡◌, ℕ, zero, suc, ◌+◌, ◌*◌, ◌%◌, ◌^◌, ◌<◌, Bool, true, false, ◌&&◌, List, [], ◌∷◌, length, refl, ◌∙◌, arith}
use Rattle.std.specs.Prelude.{if◌then◌else◌, slice_index_or}
use Rattle.bits.specs.Bits.{bit}
use Rattle.bits.proofs.Every.{every_below, and-left, and-right, at_each, same, same_is}
use Rattle.fw_compile.specs.Image.{with_bits}

-- the lowest n bits are less than 2 ^ n
pub bits_small : (set : ℕ → Bool) (n : ℕ) → with_bits set n < 2 ^ n
bits_small set zero = omega arith
bits_small set (suc n) = by (set n) (bits_small set n)
  where
    by : (b : Bool) → with_bits set n < 2 ^ n → with_bits set n + (if b then 2 ^ n else 0) < 2 ^ suc n
    by true l = omega (arith, l)
    by false l = omega (arith, l)

-- so one bit more makes a byte of fewer than eight
pub one_more : (set : ℕ → Bool) (row byte : ℕ) → row < 8 → byte ≡ with_bits set row → byte + 1 * 2 ^ row % 256 < 256
one_more set row byte l e = by row l (bits_small set row) e
  where
    by : (k : ℕ) → k < 8 → with_bits set k < 2 ^ k → byte ≡ with_bits set k → byte + 1 * 2 ^ k % 256 < 256
    by zero l s e = omega (arith, s, e)
    by (suc zero) l s e = omega (arith, s, e)
    by (suc (suc zero)) l s e = omega (arith, s, e)
    by (suc (suc (suc zero))) l s e = omega (arith, s, e)
    by (suc (suc (suc (suc zero)))) l s e = omega (arith, s, e)
    by (suc (suc (suc (suc (suc zero))))) l s e = omega (arith, s, e)
    by (suc (suc (suc (suc (suc (suc zero)))))) l s e = omega (arith, s, e)
    by (suc (suc (suc (suc (suc (suc (suc zero))))))) l s e = omega (arith, s, e)
    by (suc (suc (suc (suc (suc (suc (suc (suc k)))))))) l s e = absurd (omega (arith, l))

-- whether each list of n truth values passes
abbrev all_lists : ℕ → (List Bool → Bool) → Bool
all_lists zero test = test []
all_lists (suc n) test = all_lists n (λ bs. test (true ∷ bs)) && all_lists n (λ bs. test (false ∷ bs))

all_is : (bs : List Bool) (test : List Bool → Bool) → all_lists (length bs) test ≡ true → test bs ≡ true
all_is [] test h = h
all_is (true ∷ bs) test h = all_is bs (λ more. test (true ∷ more)) (and-left _ _ h)
all_is (false ∷ bs) test h = all_is bs (λ more. test (false ∷ more)) (and-right _ _ h)

abbrev at : List Bool → ℕ → Bool
at bs r = slice_index_or bs r false

abbrev reads : List Bool → ℕ → Bool
reads bs r = same (bit r (with_bits (at bs) 8)) (at bs r)

-- each of the eight bits of such a byte is read as it was put
pub bits_read : (set : ℕ → Bool) (r : ℕ) → r < 8 → bit r (with_bits set 8) ≡ set r
bits_read set r l =
    let bs : List Bool = set 0 ∷ set 1 ∷ set 2 ∷ set 3 ∷ set 4 ∷ set 5 ∷ set 6 ∷ set 7 ∷ [] in
    let each = at_each (reads bs) 8 (all_is bs (λ v. every_below (reads v) 8) refl) r l in
    same_is (bit r (with_bits set 8)) (at bs r) each ∙ own r l
  where
    own : (k : ℕ) → k < 8 → at (set 0 ∷ set 1 ∷ set 2 ∷ set 3 ∷ set 4 ∷ set 5 ∷ set 6 ∷ set 7 ∷ []) k ≡ set k
    own zero l = refl
    own (suc zero) l = refl
    own (suc (suc zero)) l = refl
    own (suc (suc (suc zero))) l = refl
    own (suc (suc (suc (suc zero)))) l = refl
    own (suc (suc (suc (suc (suc zero))))) l = refl
    own (suc (suc (suc (suc (suc (suc zero)))))) l = refl
    own (suc (suc (suc (suc (suc (suc (suc zero))))))) l = refl
    own (suc (suc (suc (suc (suc (suc (suc (suc k)))))))) l = absurd (omega (arith, l))
