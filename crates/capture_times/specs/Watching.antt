-- Which times are outside the limits, by the levels of the two wires at times in nanoseconds.
use Rattle.std.specs.Prelude.{ℕ, ◌+◌, ◌-◌, Bool, true, false, not, ◌&&◌, ◌||◌, ◌==◌, nat_le, nat_lt, None, if◌then◌else◌}
use Rattle.board_terms.specs.declared.lines.Lines.{Lines}
use Rattle.capture_times.specs.declared.periods.Periods.{Periods}
use Rattle.capture_times.specs.declared.slip.Slips.{Slips}
use Rattle.capture_times.specs.declared.watch.Watch.{Watch}
use Rattle.capture_times.specs.Limits.{high_slip, hold_slip, low_slip, settled_slip}
use Rattle.capture_times.specs.Periods.{no_periods, with_period}

abbrev pub no_slips : Slips
no_slips = record { low = None; high = None; settled = None }

-- before anything is seen both wires are high
abbrev pub at_first : Watch
at_first = record {
  lines = record { clk = true; dat = true };
  change = 0;
  fall = 0;
  settled = 0;
  last_fall = 0;
  last_rise = 0;
  pulses = 0;
  from_host = false;
  periods = no_periods;
}

-- how long the clock was low, if it rises now, and how long it was high before it fell
abbrev pub low : ℕ → Watch → ℕ
low rise w = rise - w.fall

abbrev pub high : Watch → ℕ
high w = w.fall - w.last_rise

-- the last fall isn't of the frame under way: none is, or the clock was high for more than 400 µs
abbrev pub is_late : Watch → Bool
is_late w = w.pulses == 0 || nat_lt 400000 (high w)

-- then it is the first of a frame
abbrev pub started : Watch → Watch
started w =
    if is_late w then record w { from_host = w.from_host && (w.pulses == 0); pulses = 0 } else w

-- a pulse of the keyboard's clock: how long it was low, and, within a frame, high before; and how long before its fall data
-- changed, if the keyboard sends
abbrev pub clock_slips : ℕ → Watch → Slips
clock_slips rise w = record {
  low = low_slip (low rise w);
  high = if w.pulses == 0 then None else high_slip (high w);
  settled = if w.from_host then None else settled_slip w.settled;
}

-- a frame has eleven pulses
abbrev pub next_pulses : Watch → ℕ
next_pulses w = if nat_le 10 w.pulses then 0 else w.pulses + 1

-- a period lasts from fall to fall
abbrev pub next_periods : Watch → Periods
next_periods w = if w.pulses == 0 then w.periods else with_period (w.fall - w.last_fall) w.periods

abbrev pub after_clock : ℕ → Watch → Watch
after_clock rise w = record w {
  last_fall = w.fall;
  last_rise = rise;
  pulses = next_pulses w;
  from_host = w.from_host && not (next_pulses w == 0);
  periods = next_periods w;
}

-- after a hold the host sends, if data is low
abbrev pub after_hold : ℕ → Bool → Watch → Watch
after_hold rise dat w = record w { last_fall = w.fall; last_rise = rise; pulses = 0; from_host = not dat }

-- a pulse that ends, by its width: 5 µs at most are a glitch, and 55 µs at least a hold
abbrev pub slips_of : ℕ → Watch → Slips
slips_of rise w =
    if nat_le (low rise w) 5000 then no_slips
    else (if nat_le 55000 (low rise w) then record { low = hold_slip (low rise w); high = None; settled = None }
    else clock_slips rise (started w))

abbrev pub after_pulse : ℕ → Bool → Watch → Watch
after_pulse rise dat w =
    if nat_le (low rise w) 5000 then w
    else (if nat_le 55000 (low rise w) then after_hold rise dat w else after_clock rise (started w))

-- two levels are the same
abbrev pub is_same : Bool → Bool → Bool
is_same before now = if before then now else not now

-- when data changed last
abbrev pub changed : ℕ → Lines → Watch → ℕ
changed time lines w = if is_same w.lines.dat lines.dat then w.change else time

-- with these levels, and if the clock falls, how long before data changed
abbrev pub after_lines : ℕ → Lines → Watch → Watch
after_lines time lines w = record w {
  lines = lines;
  change = changed time lines w;
  fall = if w.lines.clk && not lines.clk then time else w.fall;
  settled = if w.lines.clk && not lines.clk then time - changed time lines w else w.settled;
}

-- a pulse ends as the clock rises
abbrev pub slips_at : ℕ → Lines → Watch → Slips
slips_at time lines w = if w.lines.clk || not lines.clk then no_slips else slips_of time w

abbrev pub watched : ℕ → Lines → Watch → Watch
watched time lines w =
    if w.lines.clk || not lines.clk then after_lines time lines w
    else after_lines time lines (after_pulse time lines.dat w)
