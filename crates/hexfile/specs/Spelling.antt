-- The one spelling in which an image is written.
use Rattle.std.specs.Prelude.{ℕ, ◌+◌, ◌-◌, ◌*◌, ◌/◌, ◌%◌, List, [], ◌∷◌, ◌++◌, sum, ◌==◌, codes, if◌then◌else◌}
use Rattle.std.specs.List.{list_all, slice_range, flat_map, range_with_len}
use Rattle.hex_text.specs.Digits.{hex_byte}

-- the sum byte after bytes, with which they sum to 0 modulo 256
abbrev pub sum_byte : List ℕ → ℕ
sum_byte bytes = (256 - sum bytes % 256) % 256

-- a line: a colon, two digits for each of its bytes and for the sum byte, and LF
abbrev pub line_text : List ℕ → List ℕ
line_text bytes = 58 ∷ flat_map hex_byte (bytes ++ sum_byte bytes ∷ []) ++ 10 ∷ []

-- 16 bytes from a place on are a data line: their number, the place with its high byte first, type 00, and the bytes;
-- if each is 00, they are no line
abbrev pub row_text : ℕ → List ℕ → List ℕ
row_text place row =
    if list_all (λ byte. byte == 0) row then [] else line_text (16 ∷ place / 256 ∷ place % 256 ∷ 0 ∷ row)

-- the text of one of the 128 rows of a program memory
abbrev pub row_at : List ℕ → ℕ → List ℕ
row_at bytes number = row_text (16 * number) (slice_range bytes (16 * number) (16 * number + 16))

-- the text of the 128 rows, in order
unfoldable pub rows_text : List ℕ → List ℕ
rows_text bytes = flat_map (row_at bytes) (range_with_len 0 128)

-- the line that ends a file, with its LF
abbrev pub end_text : List ℕ
end_text = codes ":00000001FF" ++ 10 ∷ []

-- the text of an image: its rows, and the end
unfoldable pub hex_text_of : List ℕ → List ℕ
hex_text_of bytes = rows_text bytes ++ end_text
