-- One digit from 1 to 9 writes the number of a data bit or of the parity.
use Rattle.std.proofs.Common.{◌≡◌, ◌≤◌, ◌<◌, ℕ, ◌+◌, ◌-◌, ◌*◌, ◌==◌, ◌&&◌, Bool, true, false, List, [], ◌∷◌, length}
use Rattle.std.proofs.Common.{None, Some, refl, arith}
use Rattle.std.specs.Prelude.{nat_le, nat_lt, if◌then◌else◌}
use Rattle.std.specs.Option.{option_and_then}
use Rattle.std.specs.declared.option.Option.{Option}
use Rattle.std.proofs.lemmas.Bool.Decides.{nat_tests}
use Rattle.board_terms.specs.Flips.{IsDataOrParity}
use Rattle.text_lines.specs.Numbers.{decimal_digit, number_after}
use Rattle.key_file.specs.Fields.{bit_of}

-- what is written, where it isn't 0
abbrev unless_zero : ℕ → Option ℕ
unless_zero bit = if bit == 0 then None else Some bit

-- a number up to 9 that isn't 0
up_to_nine : (n bit : ℕ) (zero : Bool) → (n == 0) ≡ zero → n ≤ 9 → (if zero then None else Some n) ≡ Some bit
    → IsDataOrParity bit
up_to_nine n bit true e most h = absurd (cc)
up_to_nine n bit false e most h =
    let same : n ≡ bit = cc in
    let least : 1 ≤ n = grind (arith, nat_tests, e) in
    (omega (arith, same, least), omega (arith, same, most))

digit_bit : (c bit : ℕ) (digit : Bool) → (nat_le 48 c && nat_le c 57) ≡ digit
    → option_and_then unless_zero (option_and_then (λ value. Some (10 * 0 + value)) (if digit then Some (c - 48) else None))
    ≡ Some bit → IsDataOrParity bit
digit_bit c bit false e h = absurd (cc)
digit_bit c bit true e h =
    let most : c ≤ 57 = grind (arith, nat_tests, e) in
    up_to_nine (10 * 0 + (c - 48)) bit (10 * 0 + (c - 48) == 0) refl (omega (arith, most)) h

-- a longer text writes no number of one digit
longer : (text : List ℕ) (bit : ℕ) (short : Bool) → (nat_lt 0 (length text) && nat_le (length text) 1) ≡ short
    → 1 < length text → option_and_then unless_zero (if short then number_after 10 decimal_digit 0 text else None) ≡ Some bit
    → IsDataOrParity bit
longer text bit true e long h = absurd (grind (arith, nat_tests, e, long))
longer text bit false e long h = absurd (cc)

text_bit : (text : List ℕ) (bit : ℕ) → bit_of text ≡ Some bit → IsDataOrParity bit
text_bit [] bit h = absurd (cc)
text_bit (a ∷ []) bit h = digit_bit a bit (nat_le 48 a && nat_le a 57) refl h
text_bit (a ∷ b ∷ more) bit h =
    longer (a ∷ b ∷ more) bit (nat_lt 0 (length (a ∷ b ∷ more)) && nat_le (length (a ∷ b ∷ more)) 1) refl (omega arith) h

-- the number of an argument that is one digit from 1 to 9
pub argument_bit : (argument : Option (List ℕ)) (bit : ℕ) → option_and_then bit_of argument ≡ Some bit → IsDataOrParity bit
argument_bit None bit h = absurd (cc)
argument_bit (Some text) bit h = text_bit text bit h
