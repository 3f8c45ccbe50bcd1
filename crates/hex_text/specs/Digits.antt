-- Numbers as upper-case hexadecimal digits, the high digit first, and the value of a digit of either case.
use Rattle.std.specs.Prelude.{ℕ, ◌+◌, ◌-◌, ◌/◌, ◌%◌, nat_lt, nat_le, ◌&&◌, List, [], ◌∷◌, ◌++◌, Some, None}
use Rattle.std.specs.Prelude.{if◌then◌else◌}
use Rattle.std.specs.declared.option.Option.{Option}

-- the character of a digit below 16: 0 to 9, then A to F
abbrev pub hex_digit : ℕ → ℕ
hex_digit n = if nat_lt n 10 then 48 + n else 55 + n

-- the value of a hexadecimal digit: 0 to 9, or A to F in either case; none for any other character
abbrev pub digit_value : ℕ → Option ℕ
digit_value character =
    if nat_le 48 character && nat_le character 57 then Some (character - 48)
    else (if nat_le 65 character && nat_le character 70 then Some (character - 55)
    else (if nat_le 97 character && nat_le character 102 then Some (character - 87) else None))

-- two digits of a byte
abbrev pub hex_byte : ℕ → List ℕ
hex_byte byte = hex_digit (byte / 16) ∷ hex_digit (byte % 16) ∷ []

-- three digits of an address of 12 bits
abbrev pub hex_address : ℕ → List ℕ
hex_address address = hex_digit (address / 256 % 16) ∷ hex_byte (address % 256)

-- four digits of a word
abbrev pub hex_word : ℕ → List ℕ
hex_word word = hex_byte (word / 256) ++ hex_byte (word % 256)
