-- Two hexadecimal digits write a byte.
use Rattle.std.proofs.Common.{◌≡◌, ◌<◌, ◌≤◌, ℕ, ◌+◌, ◌-◌, ◌*◌, ◌==◌, ◌&&◌, Bool, true, false, List, [], ◌∷◌, length}
use Rattle.std.proofs.Common.{None, Some, refl, arith}
use Rattle.std.specs.Prelude.{IfSome, nat_le, if◌then◌else◌}
use Rattle.std.specs.Option.{option_and_then}
use Rattle.std.specs.declared.option.Option.{Option}
use Rattle.std.proofs.lemmas.Bool.Decides.{nat_tests}
use Rattle.hex_text.specs.Digits.{digit_value}
use Rattle.text_lines.specs.Numbers.{hexadecimal_of, number_after}

-- a character between two others
within : (low high c : ℕ) → (nat_le low c && nat_le c high) ≡ true → c ≤ high
within low high c h = grind (arith, nat_tests, h)

abbrev IsDigit : Option ℕ → Type 0
IsDigit value = IfSome value (λ v. v < 16)

-- the value of a digit is below 16, by the three rows of digits
digit_by : (c : ℕ) (decimal upper lower : Bool) → (nat_le 48 c && nat_le c 57) ≡ decimal
    → (nat_le 65 c && nat_le c 70) ≡ upper → (nat_le 97 c && nat_le c 102) ≡ lower
    → IsDigit (if decimal then Some (c - 48)
    else (if upper then Some (c - 55) else (if lower then Some (c - 87) else None)))
digit_by c true upper lower ed eu el = let most : c ≤ 57 = within 48 57 c ed in omega (arith, most)
digit_by c false true lower ed eu el = let most : c ≤ 70 = within 65 70 c eu in omega (arith, most)
digit_by c false false true ed eu el = let most : c ≤ 102 = within 97 102 c el in omega (arith, most)
digit_by c false false false ed eu el = tt

digit_below : (c : ℕ) → IsDigit (digit_value c)
digit_below c =
    digit_by c (nat_le 48 c && nat_le c 57) (nat_le 65 c && nat_le c 70) (nat_le 97 c && nat_le c 102) refl refl refl

-- two such digits
two_below : (high low : Option ℕ) (byte : ℕ) → IsDigit high → IsDigit low
    → option_and_then (λ v. option_and_then (λ w. Some (16 * (16 * 0 + v) + w)) low) high ≡ Some byte → byte < 256
two_below None low byte h l e = absurd (cc)
two_below (Some v) None byte h l e = absurd (cc)
two_below (Some v) (Some w) byte h l e = let same : 16 * (16 * 0 + v) + w ≡ byte = cc in omega (arith, h, l, same)

-- a longer text writes no number of two digits
longer : (text : List ℕ) (byte : ℕ) (two : Bool) → (length text == 2) ≡ two → 2 < length text
    → (if two then number_after 16 digit_value 0 text else None) ≡ Some byte → byte < 256
longer text byte true e long h = absurd (grind (arith, nat_tests, e, long))
longer text byte false e long h = absurd (cc)

text_below : (text : List ℕ) (byte : ℕ) → hexadecimal_of 2 text ≡ Some byte → byte < 256
text_below [] byte h = absurd (cc)
text_below (a ∷ []) byte h = absurd (cc)
text_below (a ∷ b ∷ []) byte h = two_below (digit_value a) (digit_value b) byte (digit_below a) (digit_below b) h
text_below (a ∷ b ∷ c ∷ more) byte h =
    longer (a ∷ b ∷ c ∷ more) byte (length (a ∷ b ∷ c ∷ more) == 2) refl (omega arith) h

-- the number of an argument of two hexadecimal digits is a byte
pub argument_below : (argument : Option (List ℕ)) (byte : ℕ) → option_and_then (hexadecimal_of 2) argument ≡ Some byte
    → byte < 256
argument_below None byte h = absurd (cc)
argument_below (Some text) byte h = text_below text byte h
