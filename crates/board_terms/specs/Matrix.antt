-- The key matrix: which keys are down, and what its columns show.
use Rattle.std.specs.Prelude.{◌≡◌, ◌<◌, ℕ, ◌+◌, ◌*◌, ◌%◌, ◌^◌, Bool, false, nat_lt, List, [], ◌∷◌, replicate}
use Rattle.std.specs.Prelude.{slice_set, slice_index_or, if◌then◌else◌}
use Rattle.board_terms.specs.declared.event.Edge.{Edge}
use Rattle.board_terms.specs.Edges.{of_place, last_of}

-- whether the key at each of the 96 places is down: all are up
abbrev pub all_up : List Bool
all_up = replicate 96 false

-- the key at a place goes down or up; the others stay
abbrev pub turned : ℕ → Bool → List Bool → List Bool
turned place down keys = slice_set keys place down

-- edges are made, in their order
abbrev pub turned_by : List Edge → List Bool → List Bool
turned_by [] keys = keys
turned_by (e ∷ es) keys = turned_by es (turned e.place e.down keys)

-- a row's bit on the bus: 0 if its key is down
abbrev pub row_bit : List Bool → ℕ → ℕ → ℕ
row_bit keys column row = if slice_index_or keys (8 * column + row) false then 0 else 2 ^ row

-- the eight rows of a column
abbrev pub column_rows : List Bool → ℕ → ℕ
column_rows keys column =
    row_bit keys column 0 + row_bit keys column 1 + row_bit keys column 2 + row_bit keys column 3
    + row_bit keys column 4 + row_bit keys column 5 + row_bit keys column 6 + row_bit keys column 7

-- what the bus reads: the low nibble of port 1 selects a column, and 12 to 15 select none
abbrev pub rows_of : List Bool → ℕ → ℕ
rows_of keys p1 = if nat_lt (p1 % 16) 12 then column_rows keys (p1 % 16) else 0xff

-- these keys are down after these edges, from all keys up
abbrev pub Shows : List Bool → List Edge → Type 0
Shows keys edges = (place : ℕ) → place < 96 → slice_index_or keys place false ≡ last_of false (of_place place edges)
