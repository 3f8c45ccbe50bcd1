-- A COUNT, as std's `parse` reads it.
use Rattle.std.proofs.Common.{◌≡◌, ℕ, ◌<◌, ◌^◌, true, List, [], ◌∷◌, length, None, ap, sym, ◌∙◌, arith, refl, ◌&&◌}
use Rattle.std.specs.Char.{is_ascii_digit}
use Rattle.std.specs.List.{list_all}
use Rattle.std.specs.Str.{all_ascii_digits}
use Rattle.std.specs.Str.Parse.{IsNumeral, AllDigits, digits_value, without_leading_plus}
use Rattle.std.proofs.lemmas.Str.Parse.{numerals_by_value, tells_all_ascii_digits, without_leading_plus_none, digit_at}
use Rattle.app_words.specs.Words.{is_short_number, count_of}

-- std's two words for a text of decimal digits
pub digits_by_list_all : (ds : List ℕ) → list_all is_ascii_digit ds ≡ all_ascii_digits ds
digits_by_list_all [] = refl
digits_by_list_all (d ∷ ds) = ap (λ b. is_ascii_digit d && b) (digits_by_list_all ds)

-- a text of decimal digits is one as the standard library's `parse` reads it
pub digits_are_digits : (ds : List ℕ) → list_all is_ascii_digit ds ≡ true → AllDigits 10 ds
digits_are_digits ds h =
    (numerals_by_value (λ xs. all_ascii_digits xs ≡ true) tells_all_ascii_digits).to ds (sym (digits_by_list_all ds) ∙ h)

-- a text of digits has no sign
pub digits_without_sign : (ds : List ℕ) → list_all is_ascii_digit ds ≡ true → 0 < length ds → without_leading_plus ds ≡ ds
digits_without_sign ds digits some =
    without_leading_plus_none ds (λ plus. let in_range = digit_at ds 0 (digits_are_digits ds digits) some in grind (arith, plus))

-- where `parse` refuses such a number, it is no COUNT
pub no_count : (word : List ℕ) → is_short_number word ≡ true
    → ((IsNumeral 10 (without_leading_plus word) × (digits_value 10 (without_leading_plus word) < 2 ^ 32)) → ⊥) → None ≡ count_of word
no_count word short refused =
    let digits : list_all is_ascii_digit word ≡ true = grind (arith, short) in
    let some : 0 < length word = grind (arith, short) in
    let plain : without_leading_plus word ≡ word = digits_without_sign word digits some in
    let big : (digits_value 10 word < 2 ^ 32) → ⊥ = λ small. refused (grind (arith, plain, small, digits_are_digits word digits, some)) in
    grind (arith, short, big)
