-- Pulses of the clock, by the levels of the two wires at times.
use Rattle.std.specs.Prelude.{ℕ, Bool, true, not, ◌&&◌, Option, Some, None, if◌then◌else◌}
use Rattle.board_terms.specs.declared.lines.Lines.{Lines}
use Rattle.capture_frames.specs.declared.pulse.Clock.{Clock}
use Rattle.capture_frames.specs.declared.pulse.Pulse.{Pulse}

-- before anything is said both wires are high
abbrev pub at_start : Clock
at_start = record { lines = record { clk = true; dat = true }; fall = 0; at_fall = true }

-- a wire falls
abbrev pub falls : Bool → Bool → Bool
falls before now = before && not now

-- a pulse ends as the clock rises
abbrev pub pulse_by : ℕ → Lines → Clock → Option Pulse
pulse_by time lines c =
    if not c.lines.clk && lines.clk
    then Some (record { fall = c.fall; at_fall = c.at_fall; rise = time; at_rise = lines.dat })
    else None

-- what is kept after levels at a time: these, and when the clock fell last, with the level of data then
abbrev pub clock_after : ℕ → Lines → Clock → Clock
clock_after time lines c = record {
  lines = lines;
  fall = if falls c.lines.clk lines.clk then time else c.fall;
  at_fall = if falls c.lines.clk lines.clk then lines.dat else c.at_fall;
}
