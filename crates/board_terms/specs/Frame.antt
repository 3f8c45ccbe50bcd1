-- The eleven bits of a byte on the wire: start, eight data bits with the lowest first, odd parity, stop.
use Rattle.std.specs.Prelude.{ℕ, Bool, true, false, not, ◌&&◌, List, [], ◌∷◌, ◌++◌, take, drop, slice_index_or}
use Rattle.std.specs.Prelude.{Some, None, if◌then◌else◌}
use Rattle.std.specs.declared.option.Option.{Option}
use Rattle.board_terms.specs.Bits.{data_bits, value, is_odd}

-- the bit with which data and parity have an odd number of ones
abbrev pub parity_of : ℕ → Bool
parity_of byte = not (is_odd (data_bits byte))

-- start 0, the data, parity, stop 1
abbrev pub frame_bits : ℕ → List Bool
frame_bits byte = false ∷ data_bits byte ++ parity_of byte ∷ true ∷ []

-- whether start, stop and parity are right; bits 1 to 8 are the data, bit 9 is the parity
abbrev pub is_right : List Bool → Bool
is_right f = not (slice_index_or f 0 true) && slice_index_or f 10 false && is_odd (take 9 (drop 1 f))

-- the byte of eleven bits, if start, parity and stop are right
unfoldable pub byte_of : List Bool → Option ℕ
byte_of f = if is_right f then Some (value (take 8 (drop 1 f))) else None
