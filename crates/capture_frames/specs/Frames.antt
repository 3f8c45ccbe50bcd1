-- Frames, by the pulses of the clock.
--
-- The keyboard gives the clock for both directions. A byte is eleven falls of it. The keyboard's bits are read at the
-- falls. If the host sends, it holds the clock low, pulls data low, and lets the clock go: that is the start bit. It puts
-- each next bit after a fall, so these are read as the clock rises; at the eleventh fall the keyboard pulls data low,
-- which acknowledges the byte.
use Rattle.std.specs.Prelude.{ℕ, ◌+◌, ◌-◌, Bool, true, false, not, ◌&&◌, ◌==◌, nat_lt, nat_le, List, [], ◌∷◌, ◌++◌, ◌<◌}
use Rattle.std.specs.Prelude.{length, take, drop, slice_index_or, Option, Some, None, if◌then◌else◌}
use Rattle.board_terms.specs.Bits.{value, is_odd}
use Rattle.capture_frames.specs.declared.finding.Finding.{Finding}
use Rattle.capture_frames.specs.declared.finding.Finding.TheVariants.{Byte, Few, Cut, Unfinished, Stray, Glitch, Hold}
use Rattle.capture_frames.specs.declared.finding.Timed.{Timed}
use Rattle.capture_frames.specs.declared.finding.Whole.{Whole}
use Rattle.capture_frames.specs.declared.pulse.Pulse.{Pulse}

-- the frame under way: who sends it, its bits so far, and when its first and its last edge were. None is under way if
-- it has no bits
pub record Frame : Type 0 where
  pub from_host : Bool
  pub bits : List Bool
  pub began : ℕ
  pub since : ℕ

abbrev pub frame : Bool → List Bool → ℕ → ℕ → Frame
frame from_host bits began since = record { from_host = from_host; bits = bits; began = began; since = since }

abbrev pub silent : Frame
silent = record { from_host = false; bits = []; began = 0; since = 0 }

-- the host asks, and data is low: its start bit
abbrev pub asked : ℕ → Frame
asked time = record { from_host = true; bits = false ∷ []; began = time; since = time }

-- 5 µs at most are no pulse of anybody, and 55 µs at least are the host's: the manual's pulses of a keyboard are 30 to
-- 50 µs long, and the host's are 60 µs at least
abbrev pub width : Pulse → ℕ
width p = p.rise - p.fall

abbrev pub is_glitch : Pulse → Bool
is_glitch p = nat_le (width p) 5000

abbrev pub is_hold : Pulse → Bool
is_hold p = nat_le 55000 (width p)

abbrev pub is_begun : Frame → Bool
is_begun f = nat_lt 0 (length f.bits)

-- the host has asked, and no edge of its frame has been: the keyboard may take its time
abbrev pub is_request : Frame → Bool
is_request f = f.from_host && (length f.bits == 1)

-- an edge is late 400 µs after the one before it: then it isn't of that frame
abbrev pub is_late : ℕ → Frame → Bool
is_late fall f = is_begun f && not (is_request f) && nat_lt 400000 (fall - f.since)

-- the edges so far: the host's start bit has none
abbrev pub edges : Frame → ℕ
edges f = if f.from_host then length f.bits - 1 else length f.bits

-- the levels of a whole frame: the host's has the acknowledgement too
abbrev pub full : Frame → ℕ
full f = if f.from_host then 12 else 11

-- the bit that a pulse is
abbrev pub bit_of : Pulse → Frame → Bool
bit_of p f = if f.from_host && nat_lt (length f.bits) 11 then p.at_rise else p.at_fall

-- a bit more, which may be the first
abbrev pub beginning : ℕ → Frame → ℕ
beginning time f = if is_begun f then f.began else time

abbrev pub with_bit : ℕ → Bool → Frame → Frame
with_bit time bit f = record {
  from_host = f.from_host;
  bits = f.bits ++ bit ∷ [];
  began = beginning time f;
  since = time;
}

-- all levels of a frame are known but its last
abbrev pub lacks_one : Frame → Bool
lacks_one f = length f.bits + 1 == full f

-- what a frame is with its last level, which is the keyboard's stop bit, or its acknowledgement of the host's frame
abbrev pub whole : Bool → Frame → Whole
whole last f = record {
  from_host = f.from_host;
  byte = value (take 8 (drop 1 f.bits));
  start = not (slice_index_or f.bits 0 true);
  parity = is_odd (take 9 (drop 1 f.bits));
  stop = if f.from_host then slice_index_or f.bits 10 false else last;
  acknowledged = not (f.from_host && last);
}

-- no other edge came in time, or the host gave its request up
abbrev pub too_few : Frame → Finding
too_few f = Few f.from_host (edges f)

-- a finding at the time at which the frame began, and one at a pulse
abbrev pub of_frame : Frame → Finding → Option Timed
of_frame f finding = Some (record { time = f.began; finding = finding })

abbrev pub of_pulse : Pulse → Finding → Option Timed
of_pulse p finding = Some (record { time = p.fall; finding = finding })

-- the frame after a pulse; what the pulse ends; and what it is itself, if that is more than a bit
pub record Heard : Type 0 where
  pub left : Frame
  pub frame : Option Timed
  pub pulse : Option Timed

-- nothing is heard
abbrev pub nothing : Frame → Heard
nothing f = record { left = f; frame = None; pulse = None }

-- the clock is high, and data has this level: if it is high, the host gives its request up
abbrev pub heard_high : Bool → Frame → Heard
heard_high dat f =
    if dat && is_request f then record { left = silent; frame = of_frame f (too_few f); pulse = None } else nothing f

-- a bit of a frame, which may be its last
abbrev pub heard_level : ℕ → Bool → Frame → Heard
heard_level time bit f =
    if lacks_one f
    then record { left = silent; frame = of_frame f (Byte (whole bit f)); pulse = None }
    else record { left = with_bit time bit f; frame = None; pulse = None }

-- a pulse of the keyboard's clock in a frame that isn't late. The first of the keyboard's own needs a start bit
abbrev pub heard_bit : Pulse → Frame → Heard
heard_bit p f =
    if not (is_begun f) && p.at_fall
    then record { left = silent; frame = None; pulse = of_pulse p Stray }
    else heard_level p.fall (bit_of p f) f

-- if it is late, the frame had too few edges, and another begins
abbrev pub heard_clock : Pulse → Frame → Heard
heard_clock p f =
    if is_late p.fall f
    then record (heard_bit p silent) { frame = of_frame f (too_few f) }
    else heard_bit p f

-- what the clock's fall ends if the clock stays low: a hold may begin within the last pulse of a frame, whose edge is
-- then the frame's. Before that the frame isn't whole
abbrev pub stays_low : ℕ → Bool → Finding → Frame → Option Timed
stays_low fall at_fall broken f =
    if not (is_begun f) then None
    else (if is_late fall f then of_frame f (too_few f)
    else (if lacks_one f then of_frame f (Byte (whole at_fall f)) else of_frame f broken))

-- a hold breaks off what isn't whole
abbrev pub held : Pulse → Frame → Option Timed
held p f = stays_low p.fall p.at_fall (Cut f.from_host (edges f)) f

-- as the host lets the clock go, low data is a request
abbrev pub heard_hold : Pulse → Frame → Heard
heard_hold p f = record {
  left = if p.at_rise then silent else asked p.rise;
  frame = held p f;
  pulse = of_pulse p (Hold (not p.at_rise));
}

-- a pulse, by its width
abbrev pub heard : Pulse → Frame → Heard
heard p f =
    if is_glitch p then record (heard_high p.at_rise f) { pulse = of_pulse p Glitch }
    else (if is_hold p then heard_hold p f else heard_clock p f)

-- at the end of a capture the clock may be low, since a time, with a level of data then
abbrev pub unfinished : Frame → Finding
unfinished f = Unfinished f.from_host (edges f)

abbrev pub ended_low : ℕ → Bool → Frame → Option Timed
ended_low fall at_fall f = stays_low fall at_fall (unfinished f) f

-- or high
abbrev pub ended_high : Frame → Option Timed
ended_high f = if is_begun f then of_frame f (unfinished f) else None

-- a frame lacks a level at least
abbrev pub IsUnderWay : Frame → Type 0
IsUnderWay f = length f.bits < full f
