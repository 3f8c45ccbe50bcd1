-- Numbers, as fields write them.
use Rattle.std.specs.Prelude.{ℕ, ◌+◌, ◌-◌, ◌*◌, ◌==◌, ◌&&◌, nat_lt, nat_le, List, [], ◌∷◌, length, Some, None}
use Rattle.std.specs.Prelude.{if◌then◌else◌}
use Rattle.std.specs.Option.{option_and_then}
use Rattle.std.specs.declared.option.Option.{Option}
use Rattle.hex_text.specs.Digits.{digit_value}

-- the value of a decimal digit; none for any other character
abbrev pub decimal_digit : ℕ → Option ℕ
decimal_digit character = if nat_le 48 character && nat_le character 57 then Some (character - 48) else None

-- the number that digits of a base write after those of another number; none if a character is no digit
abbrev pub number_after : ℕ → (ℕ → Option ℕ) → ℕ → List ℕ → Option ℕ
number_after base digit number [] = Some number
number_after base digit number (first ∷ others) =
    option_and_then (λ value. number_after base digit (base * number + value) others) (digit first)

-- the number that one to `most` decimal digits write; none for any other text
abbrev pub decimal_of : ℕ → List ℕ → Option ℕ
decimal_of most text =
    if nat_lt 0 (length text) && nat_le (length text) most then number_after 10 decimal_digit 0 text else None

-- the number that this many hexadecimal digits of either case write; none for any other text
abbrev pub hexadecimal_of : ℕ → List ℕ → Option ℕ
hexadecimal_of count text = if length text == count then number_after 16 digit_value 0 text else None
