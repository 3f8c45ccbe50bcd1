-- Numbers and values.
use Rattle.std.specs.Prelude.{ℕ, ◌+◌, ◌-◌, ◌*◌, Bool, List, [], ◌∷◌, ◌==◌, ◌&&◌, nat_le, nat_lt, fold, length, take}
use Rattle.std.specs.Prelude.{slice_index, Some, None, if◌then◌else◌, codes}
use Rattle.std.specs.List.{list_all}
use Rattle.std.specs.Option.{option_map}
use Rattle.std.specs.Str.{bytes_eq}
use Rattle.std.specs.declared.option.Option.{Option}
use Rattle.mcs48_asm.specs.Characters.{is_digit}
use Rattle.mcs48_asm.specs.Tokens.{name_of}

-- the value of a digit, 0 to 9 or A to F; any other character is 16, which is no digit of a base
abbrev pub digit_value : ℕ → ℕ
digit_value c = if is_digit c then c - 48 else (if nat_le 65 c && nat_le c 70 then c - 55 else 16)

-- digits of a base, at least one
abbrev pub are_digits : ℕ → List ℕ → Bool
are_digits base digits = nat_lt 0 (length digits) && list_all (λ c. nat_lt (digit_value c) base) digits

-- the number that digits of a base write
abbrev pub written : ℕ → List ℕ → ℕ
written base digits = fold (λ n c. n * base + digit_value c) 0 digits

-- the number that a text of digits gives
abbrev pub number_in : ℕ → List ℕ → Option ℕ
number_in base digits = if are_digits base digits then Some (written base digits) else None

-- the last character of a text, and the text before it
abbrev pub last_of : List ℕ → ℕ
last_of text = slice_index text (length text - 1)

abbrev pub front_of : List ℕ → List ℕ
front_of text = take (length text - 1) text

-- the number that a word writes: hexadecimal digits that begin with a decimal one and H, binary digits and B, or
-- decimal digits
abbrev pub number_of : List ℕ → Option ℕ
number_of word =
    if last_of word == 72 then (if is_digit (slice_index word 0) then number_in 16 (front_of word) else None)
    else (if last_of word == 66 then number_in 2 (front_of word) else number_in 10 word)

-- a value: a number, a name, or the low byte of a name's value
pub data Value : Type 0 where
  Number : ℕ → Value
  Named : List ℕ → Value
  Low : List ℕ → Value

-- what a token that is no number gives: a name
abbrev pub number_or_name : Option ℕ → List ℕ → Option Value
number_or_name (Some n) token = Some (Number n)
number_or_name None token = option_map Named (name_of token)

-- LOW and a name
abbrev pub low_of : List ℕ → List ℕ → Option Value
low_of low name = if bytes_eq low (codes "LOW") then option_map Low (name_of name) else None

-- the value that tokens write
abbrev pub value_of : List (List ℕ) → Option Value
value_of (token ∷ []) = number_or_name (number_of token) token
value_of (low ∷ name ∷ []) = low_of low name
value_of _ = None
