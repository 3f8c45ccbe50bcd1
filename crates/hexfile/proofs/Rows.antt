-- The rows of a text, one after another.
use Rattle.std.proofs.Common.{[], ◌∷◌, ◌-◌, ◌*◌, ◌/◌, ◌%◌, ◌≤◌, ◌==◌, Bool, true, false, length, drop, if◌then◌else◌}
use Rattle.std.proofs.Common.{◌≡◌, ℕ, zero, suc, ◌+◌, List, ◌++◌, ap, sym, ◌∙◌, append_assoc, arith}
use Rattle.std.specs.List.{flat_map, range_with_len, list_all, slice_range}
use Rattle.std.proofs.lemmas.Grind.{common_steps}
use Rattle.hexfile.specs.Spelling.{row_at, line_text, sum_byte, rows_text, end_text, hex_text_of}
use Rattle.hex_text.specs.Digits.{hex_byte}
use Rattle.std.proofs.lemmas.List.{length-append, length-take}

flat_map-range_more : (f : ℕ → List ℕ) (a n : ℕ) → flat_map f (range_with_len a (suc n)) ≡ flat_map f (range_with_len a n) ++ f (a + n)
flat_map-range_more f a zero = grind (arith, common_steps)
flat_map-range_more f a (suc n) =
    let next : (a + 1) + n ≡ a + suc n = omega arith in
    ap (λ t. f a ++ t) (flat_map-range_more f (a + 1) n)
    ∙ sym (append_assoc (f a) (flat_map f (range_with_len (a + 1) n)) (f ((a + 1) + n)))
    ∙ ap (λ place. (f a ++ flat_map f (range_with_len (a + 1) n)) ++ f place) next

-- one row more
pub rows_more : (bytes before text next : List ℕ) (row : ℕ)
    → text ≡ before ++ flat_map (row_at bytes) (range_with_len 0 row) → next ≡ text ++ row_at bytes row
    → next ≡ before ++ flat_map (row_at bytes) (range_with_len 0 (row + 1))
rows_more bytes before text next row so_far is =
    let rows = flat_map (row_at bytes) (range_with_len 0 row) in
    let same : 0 + row ≡ row = omega arith in
    let count : row + 1 ≡ suc row = omega arith in
    let more : flat_map (row_at bytes) (range_with_len 0 (row + 1)) ≡ rows ++ row_at bytes row =
    ap (λ n. flat_map (row_at bytes) (range_with_len 0 n)) count ∙ flat_map-range_more (row_at bytes) 0 row
    ∙ ap (λ number. rows ++ row_at bytes number) same in
    is ∙ ap (λ t. t ++ row_at bytes row) so_far ∙ append_assoc before rows (row_at bytes row) ∙ ap (λ t. before ++ t) (sym more)

-- after 128 rows the text has all rows of the bytes
pub rows_all : (bytes before text : List ℕ) (row : ℕ)
    → text ≡ before ++ flat_map (row_at bytes) (range_with_len 0 row) → row ≡ 128 → text ≡ before ++ rows_text bytes
unfolding rows_text
rows_all bytes before text row so_far all = so_far ∙ ap (λ n. before ++ flat_map (row_at bytes) (range_with_len 0 n)) all

length-hex_bytes : (bytes : List ℕ) → length (flat_map hex_byte bytes) ≡ 2 * length bytes
length-hex_bytes [] = omega arith
length-hex_bytes (byte ∷ bytes) = omega (arith, length-hex_bytes bytes)

-- a row's line has at most 44 characters
row_short : (place : ℕ) (row : List ℕ) (b : Bool) → length row ≤ 16
    → length (if b then [] else line_text (16 ∷ place / 256 ∷ place % 256 ∷ 0 ∷ row)) ≤ 44
row_short place row true h = omega arith
row_short place row false h =
    let content = 16 ∷ place / 256 ∷ place % 256 ∷ 0 ∷ row in
    let whole = content ++ sum_byte content ∷ [] in
    omega (
      arith,
      length-append (58 ∷ flat_map hex_byte whole)
          (10 ∷ []),
      length-hex_bytes whole,
      length-append content (sum_byte content ∷ []),
    )

-- and so rows have at most 44 characters each
rows_short : (bytes : List ℕ) (number count : ℕ) → length (flat_map (row_at bytes) (range_with_len number count)) ≤ 44 * count
rows_short bytes number zero = omega arith
rows_short bytes number (suc count) =
    let row = slice_range bytes (16 * number) (16 * number + 16) in
    let long : length row ≤ 16 = omega (arith, length-take (16 * number + 16 - 16 * number) (drop (16 * number) bytes)) in
    omega (
      arith,
      length-append (row_at bytes number)
          (flat_map (row_at bytes) (range_with_len (number + 1) count)),
      row_short (16 * number) row
          (list_all (λ byte. byte == 0) row) long,
      rows_short bytes (number + 1) count,
    )

length-rows : (bytes : List ℕ) → length (rows_text bytes) ≤ 5632
unfolding rows_text
length-rows bytes = rows_short bytes 0 128

-- an image's text has at most 5,644 characters
pub text_short : (bytes : List ℕ) → length (hex_text_of bytes) ≤ 5644
unfolding hex_text_of
text_short bytes = omega (arith, length-append (rows_text bytes) end_text, length-rows bytes)
