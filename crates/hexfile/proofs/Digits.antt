-- Pairs of digits, one after another.
use Rattle.std.proofs.Common.{◌≡◌, ℕ, ◌+◌, ◌*◌, ◌<◌, ◌≤◌, List, [], ◌∷◌, ◌++◌, length, get_or, drop, Option, None, Some, option_map}
use Rattle.std.proofs.Common.{option_and_then, Bool, true, false, ◌==◌, if◌then◌else◌, MatchOption, refl, ◌∙◌, append_assoc, arith}
use Rattle.hex_text.specs.Digits.{digit_value}
use Rattle.hexfile.specs.Record.{bytes_of, record_of, record_in, ◌>>=◌}
use Rattle.std.proofs.lemmas.Bool.Decides.{nat_tests}

-- the byte of two digits, in front of the bytes of the rest
abbrev pub pair_onto : Option ℕ → Option ℕ → Option (List ℕ) → Option (List ℕ)
pair_onto high low rest = high >>= (λ a. low >>= (λ b. rest >>= (λ bytes. Some ((16 * a + b) ∷ bytes))))

pair_onto-some : (front : List ℕ) (high low : Option ℕ) (rest : Option (List ℕ)) (a b : ℕ) → high ≡ Some a → low ≡ Some b
    → option_map (λ more. front ++ more) (pair_onto high low rest) ≡ option_map (λ more. (front ++ (16 * a + b) ∷ []) ++ more) rest
pair_onto-some front None low rest a b p q = cc
pair_onto-some front (Some x) None rest a b p q = cc
pair_onto-some front (Some x) (Some y) None a b p q = refl
pair_onto-some front (Some x) (Some y) (Some bytes) a b p q =
    let e : x ≡ a = cc in
    let d : y ≡ b = cc in
    rw (e, d, append_assoc) refl

-- two digits in front are one byte more
pub bytes_of_more : (front digits : List ℕ) (a b : ℕ) → 2 ≤ length digits → digit_value (get_or digits 0 0) ≡ Some a
    → digit_value (get_or digits 1 0) ≡ Some b
    → option_map (λ more. front ++ more) (bytes_of digits)
    ≡ option_map (λ more. (front ++ (16 * a + b) ∷ []) ++ more) (bytes_of (drop 2 digits))
bytes_of_more front [] a b h p q = absurd (omega arith)
bytes_of_more front (x ∷ []) a b h p q = absurd (omega arith)
bytes_of_more front (x ∷ y ∷ digits) a b h p q = pair_onto-some front (digit_value x) (digit_value y) (bytes_of digits) a b p q

-- the same, where the bytes so far and the digits that are left have names of their own
pub bytes_of_kept : (whole front digits next left : List ℕ) (a b : ℕ) → 2 ≤ length digits
    → digit_value (get_or digits 0 0) ≡ Some a → digit_value (get_or digits 1 0) ≡ Some b
    → next ≡ front ++ (16 * a + b) ∷ [] → left ≡ drop 2 digits
    → bytes_of whole ≡ option_map (λ more. front ++ more) (bytes_of digits)
    → bytes_of whole ≡ option_map (λ more. next ++ more) (bytes_of left)
bytes_of_kept whole front digits next left a b h p q e d is = rw (e, d) (is ∙ bytes_of_more front digits a b h p q)

-- a digit is below 16
digit_value-below : (character : ℕ) → MatchOption (digit_value character) (Unit {0}) (λ value. value < 16)
digit_value-below character = grind (arith, nat_tests)

-- a byte has two digits, and the first byte is below 256
abbrev pub IsDecoded : List ℕ → Option (List ℕ) → Type 0
IsDecoded digits found = MatchOption found (Unit {0}) (λ bytes. (2 * length bytes ≡ length digits) × (get_or bytes 0 0 < 256))

IsDecoded-pair : (x y : ℕ) (digits : List ℕ) (high low : Option ℕ) (rest : Option (List ℕ))
    → MatchOption high (Unit {0}) (λ value. value < 16) → MatchOption low (Unit {0}) (λ value. value < 16)
    → IsDecoded digits rest → IsDecoded (x ∷ y ∷ digits) (pair_onto high low rest)
IsDecoded-pair x y digits None low rest h l r = tt
IsDecoded-pair x y digits (Some a) None rest h l r = tt
IsDecoded-pair x y digits (Some a) (Some b) None h l r = tt
IsDecoded-pair x y digits (Some a) (Some b) (Some bytes) h l r = (omega arith, omega arith)

IsDecoded-bytes_of : (digits : List ℕ) → IsDecoded digits (bytes_of digits)
IsDecoded-bytes_of [] = (refl, omega arith)
IsDecoded-bytes_of (x ∷ []) = tt
IsDecoded-bytes_of (x ∷ y ∷ digits) =
    IsDecoded-pair x y digits (digit_value x) (digit_value y) (bytes_of digits) (digit_value-below x)
    (digit_value-below y) (IsDecoded-bytes_of digits)

-- the count is one byte, so more than 260 bytes are no record
record_of-long : (bytes : List ℕ) → 260 < length bytes → get_or bytes 0 0 < 256 → record_of bytes ≡ None
record_of-long [] h b = refl
record_of-long (count ∷ []) h b = refl
record_of-long (count ∷ high ∷ []) h b = refl
record_of-long (count ∷ high ∷ low ∷ []) h b = refl
record_of-long (count ∷ high ∷ low ∷ kind ∷ rest) h b = grind (arith, nat_tests)

-- so more than 520 digits are no record
pub record_in-long : (line : List ℕ) → 521 < length line → record_in line ≡ None
record_in-long [] h = refl
record_in-long (mark ∷ digits) h = marked (mark == 58)
  where
    decoded : (found : Option (List ℕ)) → IsDecoded digits found → option_and_then record_of found ≡ None
    decoded None d = refl
    decoded (Some bytes) d = record_of-long bytes (omega arith) d.1

    marked : (b : Bool) → option_and_then record_of (if b then bytes_of digits else None) ≡ None
    marked true = decoded (bytes_of digits) (IsDecoded-bytes_of digits)
    marked false = refl
