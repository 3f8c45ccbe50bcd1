-- The periods of the keyboard's clock within frames, in nanoseconds.
use Rattle.std.specs.Prelude.{ℕ, ◌+◌, ◌-◌, ◌/◌, ◌^◌, ◌==◌, min, max, if◌then◌else◌}
use Rattle.capture_times.specs.declared.periods.Periods.{Periods}

abbrev pub no_periods : Periods
no_periods = record { count = 0; sum = 0; least = 0; greatest = 0 }

-- with one more; count and sum stand still at their greatest value
abbrev pub with_period : ℕ → Periods → Periods
with_period period p = record {
  count = min (p.count + 1) (2 ^ 64 - 1);
  sum = min (p.sum + period) (2 ^ 64 - 1);
  least = if p.count == 0 then period else min p.least period;
  greatest = max p.greatest period;
}

-- their mean, rounded down; 0 if there are none
abbrev pub mean : Periods → ℕ
mean p = if p.count == 0 then 0 else p.sum / p.count
