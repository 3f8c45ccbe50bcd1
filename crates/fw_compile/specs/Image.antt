-- The image of a layout: the kernel with the layout's tables in it.
use Rattle.std.specs.Prelude.{ℕ, zero, suc, ◌+◌, ◌*◌, ◌^◌, Bool, if◌then◌else◌, List, [], ◌∷◌, ◌++◌, take, drop, map}
use Rattle.std.specs.Prelude.{length, unwrap_or}
use Rattle.std.specs.List.{range_with_len}
use Rattle.fw_kernel.specs.declared.bytes.TheConstants.{KERNEL}
use Rattle.fw_kernel.specs.Tables.{codes_at, rate_at, fn_codes_at, make_only_at, fn_place_at, debounce_at}
use Rattle.layout_reader.specs.Layouts.{KeyLayout, code_at, fn_code_at, is_make_only, fn_place}

-- the bytes for a place: its codes in the two layers, or 00 if it has none
abbrev pub code_byte : KeyLayout → ℕ → ℕ
code_byte layout place = unwrap_or (code_at place layout) 0

abbrev pub fn_code_byte : KeyLayout → ℕ → ℕ
fn_code_byte layout place = unwrap_or (fn_code_at place layout) 0

-- those for the places 0 to 95
abbrev pub codes_of : KeyLayout → List ℕ
codes_of layout = map (code_byte layout) (range_with_len 0 96)

abbrev pub fn_codes_of : KeyLayout → List ℕ
fn_codes_of layout = map (fn_code_byte layout) (range_with_len 0 96)

-- the number whose lowest bits are these
abbrev pub with_bits : (ℕ → Bool) → ℕ → ℕ
with_bits set zero = 0
with_bits set (suc r) = with_bits set r + (if set r then 2 ^ r else 0)

-- the byte for a column: bit r is set exactly if the key at row r sends no break
abbrev pub make_only_byte : KeyLayout → ℕ → ℕ
make_only_byte layout column = with_bits (λ row. is_make_only (8 * column + row) layout) 8

-- those for the columns 0 to 11
abbrev pub make_only_of : KeyLayout → List ℕ
make_only_of layout = map (make_only_byte layout) (range_with_len 0 12)

-- the place of the Fn key, or FF if there is none
abbrev pub fn_byte : KeyLayout → ℕ
fn_byte layout = unwrap_or (fn_place layout) 0xff

-- whether keys are debounced
abbrev pub debounce_byte : KeyLayout → ℕ
debounce_byte layout = if layout.debounce then 1 else 0

-- bytes that hold a table at a place, and are else as they were
abbrev pub with_table : ℕ → List ℕ → List ℕ → List ℕ
with_table at table bytes = take at bytes ++ table ++ drop (at + length table) bytes

-- the image of a layout
abbrev pub image_of : KeyLayout → List ℕ
image_of layout =
    with_table debounce_at (debounce_byte layout ∷ [])
    (with_table fn_place_at (fn_byte layout ∷ [])
    (with_table make_only_at (make_only_of layout)
    (with_table fn_codes_at (fn_codes_of layout)
    (with_table rate_at (layout.rate ∷ [])
    (with_table codes_at (codes_of layout) KERNEL)))))
