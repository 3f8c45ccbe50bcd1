-- The places of the key matrix: 12 columns of 8 rows.
use Rattle.std.specs.Prelude.{ℕ, ◌+◌, ◌*◌, nat_lt, ◌&&◌, if◌then◌else◌, Some, None}
use Rattle.std.specs.declared.option.Option.{Option}

-- the number of the place in this column and row
abbrev pub place_at : ℕ → ℕ → Option ℕ
place_at column row = if nat_lt column 12 && nat_lt row 8 then Some (8 * column + row) else None

-- the number itself, if a place has it
abbrev pub place_numbered : ℕ → Option ℕ
place_numbered number = if nat_lt number 96 then Some number else None
