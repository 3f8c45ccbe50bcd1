-- Columns of a matrix as bytes: bit k is row k, 0 for down.
use Rattle.std.specs.Prelude.{ℕ, Bool, not, List, [], ◌∷◌, ◌++◌, map}
use Rattle.board_terms.specs.Bits.{data_bits}

-- whether the key in each row of a column is down
abbrev pub column_keys : ℕ → List Bool
column_keys rows = map not (data_bits rows)

-- whether the key at each place is down, column by column
abbrev pub keys_in : List ℕ → List Bool
keys_in [] = []
keys_in (rows ∷ columns) = column_keys rows ++ keys_in columns
