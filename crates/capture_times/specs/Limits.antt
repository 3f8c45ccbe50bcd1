-- The limits of the times on the wires, in nanoseconds.
use Rattle.std.specs.Prelude.{ℕ, Bool, ◌||◌, nat_lt, Option, Some, None, if◌then◌else◌}
use Rattle.capture_times.specs.declared.slip.Slip.{Slip}
use Rattle.capture_times.specs.declared.slip.Slip.TheVariants.{Low, High, Settled, Held}

-- the keyboard's clock is low for 30 to 50 µs, and high for 30 to 50 µs
abbrev pub is_outside : ℕ → Bool
is_outside time = nat_lt time 30000 || nat_lt 50000 time

abbrev pub low_slip : ℕ → Option Slip
low_slip time = if is_outside time then Some (Low time) else None

abbrev pub high_slip : ℕ → Option Slip
high_slip time = if is_outside time then Some (High time) else None

-- data changes 5 µs before the fall at least
abbrev pub settled_slip : ℕ → Option Slip
settled_slip time = if nat_lt time 5000 then Some (Settled time) else None

-- the host holds the clock for 60 µs at least
abbrev pub hold_slip : ℕ → Option Slip
hold_slip time = if nat_lt time 60000 then Some (Held time) else None
