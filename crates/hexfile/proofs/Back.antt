-- What is written is read again: the digits, the records and the lines.
use Rattle.std.proofs.Common.{◌≡◌, ℕ, ◌+◌, ◌-◌, ◌*◌, ◌/◌, ◌%◌, ◌<◌, ◌==◌, true, false, List, [], ◌∷◌, ◌++◌, length, take, sum}
use Rattle.std.proofs.Common.{All, slice_index, Option, Some, option_and_then, refl, ap, ◌∙◌, append_assoc, arith}
use Rattle.std.specs.List.{flat_map, slice_split}
use Rattle.std.specs.Str.Lines.{lines, strip_carriage_return}
use Rattle.std.proofs.lemmas.Grind.{common_steps}
use Rattle.std.proofs.lemmas.Bool.Decides.{nat_tests}
use Rattle.std.proofs.lemmas.List.{take_all, take-append-le}
use Rattle.std.proofs.lemmas.List.Elements.{All-nil, All-cons, All-head, All-tail, All-append, All-weaker, All-get_or}
use Rattle.std.proofs.lemmas.List.Splits.{slice_split_at}
use Rattle.std.proofs.lemmas.List.Sums.{sum_by-append}
use Rattle.hex_text.specs.Digits.{hex_digit, digit_value, hex_byte}
use Rattle.hexfile.specs.Record.{Record, bytes_of, record_of, record_in}
use Rattle.hexfile.specs.Spelling.{sum_byte}
use Rattle.hexfile.proofs.Digits.{pair_onto}
use Rattle.text_lines.proofs.FirstLine.{lines-first}

-- each of these is a byte
abbrev pub AllBytes : List ℕ → Type 0
AllBytes bytes = All (λ byte. byte < 256) bytes

digit_back : (n : ℕ) → n < 16 → digit_value (hex_digit n) ≡ Some n
digit_back n h = grind (arith, nat_tests)

pair_back : (high low : Option ℕ) (rest : Option (List ℕ)) (a b : ℕ) (bytes : List ℕ) → high ≡ Some a → low ≡ Some b
    → rest ≡ Some bytes → pair_onto high low rest ≡ Some ((16 * a + b) ∷ bytes)
pair_back high low rest a b bytes p q r =
    ap (λ h. pair_onto h low rest) p ∙ ap (λ l. pair_onto (Some a) l rest) q ∙ ap (λ more. pair_onto (Some a) (Some b) more) r

-- the digits of bytes give them back
bytes_back : (bytes : List ℕ) → AllBytes bytes → bytes_of (flat_map hex_byte bytes) ≡ Some bytes
bytes_back [] h = refl
bytes_back (byte ∷ bytes) h =
    let below : byte < 256 = All-head (λ b. b < 256) byte bytes h in
    let whole : 16 * (byte / 16) + byte % 16 ≡ byte = omega arith in
    pair_back (digit_value (hex_digit (byte / 16))) (digit_value (hex_digit (byte % 16)))
    (bytes_of (flat_map hex_byte bytes)) (byte / 16) (byte % 16) bytes
    (digit_back (byte / 16) (omega arith)) (digit_back (byte % 16) (omega arith)) (bytes_back bytes (All-tail (λ b. b < 256) byte bytes h))
    ∙ ap (λ b. Some (b ∷ bytes)) whole

-- what a row says
abbrev pub row_record : ℕ → List ℕ → Record
row_record place row = record { address = place; kind = 0; bytes = row; total = 0 }

-- the bytes of a row's line before its sum byte
abbrev pub row_bytes : ℕ → List ℕ → List ℕ
row_bytes place row = 16 ∷ place / 256 ∷ place % 256 ∷ 0 ∷ row

-- a row's line without its LF
abbrev pub row_line : ℕ → List ℕ → List ℕ
row_line place row = 58 ∷ flat_map hex_byte (row_bytes place row ++ sum_byte (row_bytes place row) ∷ [])

sum_zero : (n : ℕ) → (n + (256 - n % 256) % 256) % 256 ≡ 0
sum_zero n = omega arith

sum_back : (bytes : List ℕ) → sum (bytes ++ sum_byte bytes ∷ []) % 256 ≡ 0
sum_back bytes =
    let total : sum (bytes ++ sum_byte bytes ∷ []) ≡ sum bytes + sum_byte bytes = grind (arith, sum_by-append) in
    ap (λ n. n % 256) total ∙ sum_zero (sum bytes)

-- the whole of a list is before what was appended
pub take_whole : {X : Type 0} (n : ℕ) (xs ys : List X) → length xs ≡ n → take n (xs ++ ys) ≡ xs
take_whole n xs ys h = take-append-le n xs ys (omega arith) ∙ take_all n xs (omega arith)

record_back : (place : ℕ) (row : List ℕ) → length row ≡ 16
    → record_of (row_bytes place row ++ sum_byte (row_bytes place row) ∷ []) ≡ Some (row_record place row)
record_back place row long =
    let check = sum_byte (row_bytes place row) in
    let count : (length (row ++ check ∷ []) == 17) ≡ true = grind (arith, nat_tests, common_steps) in
    let address : place / 256 * 256 + place % 256 ≡ place = omega arith in
    let bytes : take 16 (row ++ check ∷ []) ≡ row = take_whole 16 row (check ∷ []) long in
    rw (count, address, bytes, sum_back (row_bytes place row)) refl

-- a row's line says what the row says
pub line_back : (place : ℕ) (row : List ℕ) → place < 65536 → length row ≡ 16 → AllBytes row
    → record_in (row_line place row) ≡ Some (row_record place row)
line_back place row fits long all =
    let head = All-cons (λ b. b < 256) 16 (place / 256 ∷ place % 256 ∷ 0 ∷ row) (omega arith)
    (All-cons (λ b. b < 256) (place / 256) (place % 256 ∷ 0 ∷ row) (omega arith)
    (All-cons (λ b. b < 256) (place % 256) (0 ∷ row) (omega arith) (All-cons (λ b. b < 256) 0 row (omega arith) all))) in
    let check = All-cons (λ b. b < 256) (sum_byte (row_bytes place row)) [] (omega arith) (All-nil (λ b. b < 256)) in
    ap (option_and_then record_of)
    (bytes_back (row_bytes place row ++ sum_byte (row_bytes place row) ∷ [])
    (All-append (λ b. b < 256) (row_bytes place row) (sum_byte (row_bytes place row) ∷ []) head check))
    ∙ record_back place row long

-- each of these is past the control characters
abbrev pub AllPlain : List ℕ → Type 0
AllPlain line = All (λ character. 47 < character) line

digits_plain : (bytes : List ℕ) → AllPlain (flat_map hex_byte bytes)
digits_plain [] = All-nil (λ c. 47 < c)
digits_plain (byte ∷ bytes) =
    All-cons (λ c. 47 < c) (hex_digit (byte / 16)) (hex_digit (byte % 16) ∷ flat_map hex_byte bytes) (grind (arith, nat_tests))
    (All-cons (λ c. 47 < c) (hex_digit (byte % 16)) (flat_map hex_byte bytes) (grind (arith, nat_tests)) (digits_plain bytes))

-- the line of a record has no character below 30 (hexadecimal), so no end of a line
pub line_plain : (place : ℕ) (row : List ℕ) → AllPlain (row_line place row)
line_plain place row =
    All-cons (λ c. 47 < c) 58 (flat_map hex_byte (row_bytes place row ++ sum_byte (row_bytes place row) ∷ []))
    (omega arith) (digits_plain (row_bytes place row ++ sum_byte (row_bytes place row) ∷ []))

no_return : (line : List ℕ) → 0 < length line → AllPlain line → strip_carriage_return line ≡ line
no_return line h all =
    let last : 47 < slice_index line (length line - 1) = All-get_or (λ c. 47 < c) line (length line - 1) 0 (omega arith) all in
    let not_return : (slice_index line (length line - 1) == 13) ≡ false = grind (arith, nat_tests) in
    rw not_return refl

not_lf : (c : ℕ) → 47 < c → (c == 10) ≡ false
not_lf c h = grind (arith, nat_tests)

-- a line of plain characters is the first of its text
pub first_line : (line rest : List ℕ) → 0 < length line → AllPlain line → lines ((line ++ 10 ∷ []) ++ rest) ≡ line ∷ lines rest
first_line line rest h all =
    let no_lf = All-weaker (λ c. 47 < c) (λ c. (c == 10) ≡ false) not_lf line all in
    lines-first ((line ++ 10 ∷ []) ++ rest) line rest
    (ap (slice_split (λ c. c == 10)) (append_assoc line (10 ∷ []) rest) ∙ slice_split_at (λ c. c == 10) line 10 rest no_lf refl)
    ∙ ap (λ first. first ∷ lines rest) (no_return line h all)
