-- A program memory while a file fills it: each of its places with the byte that the file gave to it, or none.
use Rattle.std.specs.Prelude.{ℕ, ◌+◌, Bool, ◌&&◌, List, ◌++◌, length, take, drop, map, replicate, None, Some}
use Rattle.std.specs.Prelude.{nat_lt, is_some, unwrap_or}
use Rattle.std.specs.List.{list_any, slice_range}
use Rattle.std.specs.declared.option.Option.{Option}
use Rattle.hexfile.specs.Record.{Record}

-- at first none of the 2,048 places has a byte
unfoldable pub empty_memory : List (Option ℕ)
empty_memory = replicate 2048 None

-- the place after a line's last byte of data
abbrev pub end_of : Record → ℕ
end_of line = line.address + length line.bytes

-- a byte of data is past the last place
abbrev pub is_past : Record → Bool
is_past line = nat_lt 0 (length line.bytes) && nat_lt 2048 (end_of line)

-- a byte of data is at a place that has a byte
abbrev pub is_given_twice : List (Option ℕ) → Record → Bool
is_given_twice memory line = list_any is_some (slice_range memory line.address (end_of line))

-- the memory with a line's data from its address on
abbrev pub with_data : List (Option ℕ) → Record → List (Option ℕ)
with_data memory line = take line.address memory ++ map Some line.bytes ++ drop (end_of line) memory

-- a place that has no byte is 00
abbrev pub image_of : List (Option ℕ) → List ℕ
image_of memory = map (λ cell. unwrap_or cell 0) memory
