-- Lists of bits, by trying both values of each.
use Rattle.std.proofs.Common.{◌≡◌, Bool, true, false, ◌&&◌, List, [], ◌∷◌, refl}
use Rattle.bits.proofs.Every.{and-left, and-right, same, same_is}

-- whether two lists of bits are the same
abbrev pub same_bits : List Bool → List Bool → Bool
same_bits [] [] = true
same_bits [] (b ∷ bs) = false
same_bits (a ∷ as') [] = false
same_bits (a ∷ as') (b ∷ bs) = same a b && same_bits as' bs

-- lists of bits that the test finds the same are the same
pub same_bits-true : (as' bs : List Bool) → same_bits as' bs ≡ true → as' ≡ bs
same_bits-true [] [] h = refl
same_bits-true [] (b ∷ bs) h = absurd cc
same_bits-true (a ∷ as') [] h = absurd cc
same_bits-true (a ∷ as') (b ∷ bs) h =
    let head : a ≡ b = same_is a b (and-left (same a b) (same_bits as' bs) h) in
    let tail : as' ≡ bs = same_bits-true as' bs (and-right (same a b) (same_bits as' bs) h) in
    cc (head, tail)

-- whether a test holds of both bits
abbrev pub each_bit : (Bool → Bool) → Bool
each_bit p = p true && p false

-- what was tried for both bits is so of each bit
pub at_bit : (p : Bool → Bool) → each_bit p ≡ true → (b : Bool) → p b ≡ true
at_bit p h true = and-left (p true) (p false) h
at_bit p h false = and-right (p true) (p false) h
