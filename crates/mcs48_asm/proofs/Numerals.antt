-- The numerals of a listing are read as their numbers.
use Rattle.std.proofs.Common.{◌≡◌, ℕ, ◌+◌, ◌*◌, ◌/◌, ◌%◌, ◌<◌, ◌&&◌, true, List, [], ◌∷◌, Option}
use Rattle.std.proofs.Common.{Some, None, nat_lt, if◌then◌else◌, refl, ap, ◌∙◌, arith}
use Rattle.std.specs.List.{list_all}
use Rattle.std.proofs.lemmas.Bool.{and_from}
use Rattle.std.proofs.lemmas.Bool.Decides.{nat_tests}
use Rattle.hex_text.specs.Digits.{hex_digit}
use Rattle.mcs48_isa.specs.Text.{value, address}
use Rattle.mcs48_asm.specs.Characters.{is_word_character}
use Rattle.mcs48_asm.specs.Values.{digit_value, number_in, number_of}

-- a text is one word, which is a number
pub record IsNumeral (text : List ℕ) (n : ℕ) : Type 0 where
  pub word : list_all is_word_character text ≡ true
  pub number : number_of text ≡ Some n

digit-word : (n : ℕ) → n < 16 → is_word_character (hex_digit n) ≡ true
digit-word n h = grind (arith, nat_tests)

digit-back : (n : ℕ) → n < 16 → digit_value (hex_digit n) ≡ n
digit-back n h = grind (arith, nat_tests)

-- what two digits after a 0 write, and three
abbrev two_digits : ℕ → ℕ → Option ℕ
two_digits a b = if nat_lt a 16 && (nat_lt b 16 && true) then Some ((0 + a) * 16 + b) else None

abbrev three_digits : ℕ → ℕ → ℕ → Option ℕ
three_digits a b c = if nat_lt a 16 && (nat_lt b 16 && (nat_lt c 16 && true)) then Some (((0 + a) * 16 + b) * 16 + c) else None

two-in : (x y : ℕ) → number_in 16 (48 ∷ x ∷ y ∷ []) ≡ two_digits (digit_value x) (digit_value y)
two-in x y = refl

three-in : (x y z : ℕ) → number_in 16 (48 ∷ x ∷ y ∷ z ∷ []) ≡ three_digits (digit_value x) (digit_value y) (digit_value z)
three-in x y z = refl

two-are : (a b n : ℕ) → a < 16 → b < 16 → n ≡ a * 16 + b → two_digits a b ≡ Some n
two-are a b n ha hb e = grind (arith, nat_tests)

three-are : (a b c n : ℕ) → a < 16 → b < 16 → c < 16 → n ≡ (a * 16 + b) * 16 + c → three_digits a b c ≡ Some n
three-are a b c n ha hb hc e = grind (arith, nat_tests)

-- a byte as a listing writes it is read as the byte
pub value-number : (n : ℕ) → n < 256 → number_of (value n) ≡ Some n
value-number n h =
    two-in (hex_digit (n / 16)) (hex_digit (n % 16))
    ∙ ap (λ a. two_digits a (digit_value (hex_digit (n % 16)))) (digit-back (n / 16) (omega arith))
    ∙ ap (two_digits (n / 16)) (digit-back (n % 16) (omega arith))
    ∙ two-are (n / 16) (n % 16) n (omega arith) (omega arith) (omega arith)

-- an address as a listing writes it is read as the address
pub address-number : (a : ℕ) → a < 2048 → number_of (address a) ≡ Some a
address-number a h =
    three-in (hex_digit (a / 256 % 16)) (hex_digit (a % 256 / 16)) (hex_digit (a % 256 % 16))
    ∙ ap (λ p. three_digits p (digit_value (hex_digit (a % 256 / 16))) (digit_value (hex_digit (a % 256 % 16))))
    (digit-back (a / 256 % 16) (omega arith))
    ∙ ap (λ p. three_digits (a / 256 % 16) p (digit_value (hex_digit (a % 256 % 16)))) (digit-back (a % 256 / 16) (omega arith))
    ∙ ap (three_digits (a / 256 % 16) (a % 256 / 16)) (digit-back (a % 256 % 16) (omega arith))
    ∙ three-are (a / 256 % 16) (a % 256 / 16) (a % 256 % 16) a (omega arith) (omega arith) (omega arith) (omega arith)

-- a byte as a listing writes it is one word, which is its number
pub value-numeral : (n : ℕ) → n < 256 → IsNumeral (value n) n
value-numeral n h =
    record {
      word = and_from _ _ (digit-word (n / 16) (omega arith)) (and_from _ _ (digit-word (n % 16) (omega arith)) refl);
      number = value-number n h;
    }

-- an address as a listing writes it is one word, which is its number
pub address-numeral : (a : ℕ) → a < 2048 → IsNumeral (address a) a
address-numeral a h =
    record {
      word = and_from _ _ (digit-word (a / 256 % 16) (omega arith))
          (and_from _ _ (digit-word (a % 256 / 16) (omega arith)) (and_from _ _ (digit-word (a % 256 % 16) (omega arith)) refl));
      number = address-number a h;
    }
