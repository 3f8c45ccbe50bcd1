-- Bounds in machine cycles that a register counts.
use Rattle.std.specs.Prelude.{ℕ, ◌+◌, ◌*◌, ◌==◌, if◌then◌else◌, List}
use Rattle.std.specs.List.{range_with_len}
use Rattle.cycle_cert.specs.declared.bound.Bound.{Bound}

-- the values of a register, 00 to FF
unfoldable pub byte_values : List ℕ
byte_values = range_with_len 0 256

-- the weight of a register's value: the value, or 256 for 00, as a counting loop takes it
abbrev pub weight : ℕ → ℕ
weight value = if value == 0 then 256 else value

-- the bound if its register has this value
abbrev pub cycles_at : Bound → ℕ → ℕ
cycles_at bound value = bound.fixed + bound.factor * weight value

-- the greatest value that a bound takes: 256 is the greatest weight
abbrev pub most_cycles : Bound → ℕ
most_cycles bound = bound.fixed + bound.factor * 256

-- the bound at the target
abbrev pub nothing_left : Bound
nothing_left = record { fixed = 0; factor = 0; register = 0 }
