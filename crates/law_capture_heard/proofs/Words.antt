-- Words of a trace's lines: a byte in two digits, and a time after its number sign.
use Rattle.std.proofs.Common.{◌<◌, ℕ, ◌+◌, ◌/◌, ◌%◌, ◌^◌, Bool, true, false, [], ◌∷◌, arith, decimal}
use Rattle.std.specs.Prelude.{nat_lt, if◌then◌else◌}
use Rattle.std.proofs.lemmas.List.Elements.{All-nil, All-cons}
use Rattle.hex_text.specs.Digits.{hex_byte, hex_digit}
use Rattle.key_lines.proofs.Parted.{IsWord, decimal-word}

-- two hexadecimal digits
hex_visible : (n : ℕ) → 32 < hex_digit n
hex_visible n = by (nat_lt n 10)
  where
    by : (b : Bool) → 32 < (if b then 48 + n else 55 + n)
    by true = omega arith
    by false = omega arith

-- two hexadecimal digits are a word
pub byte-word : (byte : ℕ) → IsWord (hex_byte byte)
byte-word byte =
    record {
      some = omega arith;
      each = All-cons (λ c. 32 < c) (hex_digit (byte / 16)) (hex_digit (byte % 16) ∷ []) (hex_visible (byte / 16))
          (All-cons (λ c. 32 < c) (hex_digit (byte % 16)) [] (hex_visible (byte % 16)) (All-nil (λ c. 32 < c)));
    }

-- a number's decimal text after a number sign is a word
pub time-word : (n : ℕ) → n < 2 ^ 64 → IsWord (35 ∷ decimal n)
time-word n h = record { some = omega arith; each = All-cons (λ c. 32 < c) 35 (decimal n) (omega arith) (decimal-word n h).each }
