-- Findings, by the levels of the two wires at times.
use Rattle.std.specs.Prelude.{ℕ, Option, Some, None, if◌then◌else◌}
use Rattle.board_terms.specs.declared.lines.Lines.{Lines}
use Rattle.capture_frames.specs.declared.finding.Finding.TheVariants.{StaysLow}
use Rattle.capture_frames.specs.declared.finding.Timed.{Timed}
use Rattle.capture_frames.specs.declared.pulse.Clock.{Clock}
use Rattle.capture_frames.specs.declared.pulse.Pulse.{Pulse}
use Rattle.capture_frames.specs.Frames.{Frame, Heard, ended_high, ended_low, heard, heard_high, nothing, silent}
use Rattle.capture_frames.specs.Pulses.{at_start, clock_after, pulse_by}

-- what was said so far: of the clock, and of the frame under way
pub record Hearing : Type 0 where
  pub clock : Clock
  pub frame : Frame

-- before anything is said
abbrev pub at_first : Hearing
at_first = record { clock = at_start; frame = silent }

-- a pulse is heard as it ends; between two pulses the clock is high
abbrev pub heard_by : Option Pulse → Lines → Frame → Heard
heard_by None lines f = if lines.clk then heard_high lines.dat f else nothing f
heard_by (Some p) lines f = heard p f

abbrev pub heard_at : ℕ → Lines → Hearing → Heard
heard_at time lines h = heard_by (pulse_by time lines h.clock) lines h.frame

-- what is kept after levels at a time
abbrev pub hearing_after : ℕ → Lines → Hearing → Hearing
hearing_after time lines h = record { clock = clock_after time lines h.clock; frame = (heard_at time lines h).left }

-- at the end of a capture: what the frame under way is, and that the clock is low
abbrev pub frame_at_end : Hearing → Option Timed
frame_at_end h =
    if h.clock.lines.clk then ended_high h.frame else ended_low h.clock.fall h.clock.at_fall h.frame

abbrev pub pulse_at_end : Hearing → Option Timed
pulse_at_end h = if h.clock.lines.clk then None else Some (record { time = h.clock.fall; finding = StaysLow })
