-- What a listener makes of the level of data while the clock stays high.
use Rattle.std.proofs.Common.{◌≡◌, ◌≤◌, Bool, true, false, ◌&&◌, [], None, refl, ap, arith}
use Rattle.std.specs.Prelude.{if◌then◌else◌}
use Rattle.board_terms.specs.declared.lines.Lines.{Lines}
use Rattle.capture_lines.specs.Captures.{both}
use Rattle.capture_frames.specs.Frames.{Frame, Heard, edges, heard_high, is_begun, is_request, nothing, of_frame, silent, too_few}
use Rattle.capture_frames.specs.Listening.{heard_by}
use Rattle.law_capture_heard.specs.Found.{bytes_in}

-- a conjunction of which the second part is false
pub and_false : (a b : Bool) → b ≡ false → (a && b) ≡ false
and_false true b h = h
and_false false b h = refl

-- what is so of the frame after each sample: the host's has its start bit, and with both wires high it is no bare request
pub record IsKept (lines : Lines) (f : Frame) : Type 0 where
  pub start : f.from_host ≡ true → is_begun f ≡ true
  pub taken : (lines.clk && (lines.dat && is_request f)) ≡ false

-- it is so of a frame that is no bare request, whatever the level of data
pub kept_high : (dat : Bool) (f : Frame) → (f.from_host ≡ true → is_begun f ≡ true) → is_request f ≡ false
    → IsKept (record { clk = true; dat = dat }) f
kept_high dat f start none = record { start = start; taken = and_false dat (is_request f) none }

-- and if nothing is under way
pub silent_kept : (dat : Bool) → IsKept (record { clk = true; dat = dat }) silent
silent_kept dat = kept_high dat silent (λ e. absurd cc) refl

module _ (dat : Bool) (f : Frame) where
  abbrev heard_if : Bool → Heard
  heard_if given_up = if given_up then record { left = silent; frame = of_frame f (too_few f); pulse = None } else nothing f

  -- the frame is as before, unless it is a bare request and data is high
  pub high_keeps : (dat && is_request f) ≡ false → (heard_high dat f).left ≡ f
  high_keeps e = ap (λ b. (heard_if b).left) e

  -- no edge is added
  pub high_edges : edges (heard_high dat f).left ≤ edges f
  high_edges = by (dat && is_request f)
    where
      by : (b : Bool) → edges (heard_if b).left ≤ edges f
      by true = omega arith
      by false = omega arith

  -- and no byte is found
  pub high_byte : bytes_in (both (heard_high dat f).frame (heard_high dat f).pulse) ≡ []
  high_byte = by (dat && is_request f)
    where
      by : (b : Bool) → bytes_in (both (heard_if b).frame (heard_if b).pulse) ≡ []
      by true = refl
      by false = refl

  -- afterwards the frame is no bare request, if data is high
  pub high_kept : (f.from_host ≡ true → is_begun f ≡ true) → IsKept (record { clk = true; dat = dat }) (heard_high dat f).left
  high_kept start = by (dat && is_request f) refl
    where
      by : (b : Bool) → (dat && is_request f) ≡ b → IsKept (record { clk = true; dat = dat }) (heard_if b).left
      by true e = silent_kept dat
      by false e = record { start = start; taken = e }

-- levels with which no pulse ends and no request is given up say nothing
pub says_nothing : (lines : Lines) (f : Frame) → IsKept lines f → heard_by None lines f ≡ nothing f
says_nothing lines f kept = by lines.clk (lines.dat && is_request f) kept.taken
  where
    by : (high given_up : Bool) → (high && given_up) ≡ false
        → (if high then heard_if lines.dat f given_up else nothing f) ≡ nothing f
    by true true e = absurd cc
    by true false e = refl
    by false given_up e = refl
