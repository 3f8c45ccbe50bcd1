-- What is said of the times on the wires.
use Rattle.std.specs.Prelude.{ℕ, ◌/◌, List, [], ◌∷◌, ◌++◌, codes, Option, Some, None}
use Rattle.std.specs.Fmt.{decimal}
use Rattle.capture_vcd.specs.declared.state.Sample.{Sample}
use Rattle.capture_times.specs.declared.slip.Slip.{Slip}
use Rattle.capture_times.specs.declared.slip.Slip.TheVariants.{Low, High, Settled, Held}
use Rattle.capture_times.specs.declared.slip.Slips.{Slips}
use Rattle.capture_times.specs.declared.watch.Watch.{Watch}
use Rattle.capture_times.specs.Watching.{at_first, slips_at, watched}
use Rattle.capture_lines.specs.Counting.{one_more}
use Rattle.capture_lines.specs.Lines.{digit, time_text}

-- a time of so many nanoseconds in microseconds, with three decimals
abbrev pub span_text : ℕ → List ℕ
span_text time = decimal (time / 1000) ++ 46 ∷ digit (time / 100) ∷ digit (time / 10) ∷ digit time ∷ []

-- a time between two texts
abbrev pub span_between : List ℕ → ℕ → List ℕ → List ℕ
span_between before time after = before ++ span_text time ++ after

-- a time outside its limits, with them
abbrev pub slip_text : Slip → List ℕ
slip_text (Low time) = span_between (codes "clock low for ") time (codes ", not 30 to 50")
slip_text (High time) = span_between (codes "clock high for ") time (codes ", not 30 to 50")
slip_text (Settled time) = span_between (codes "data changed ") time (codes " before the fall, not 5 or more")
slip_text (Held time) = span_between (codes "hold of ") time (codes ", not 60 or more")

-- its line, and the time of the pulse's fall
abbrev pub slip_line : ℕ → Slip → List ℕ
slip_line fall slip = time_text fall ++ slip_text slip ++ 10 ∷ []

-- what was said of the times so far
pub record Timing : Type 0 where
  pub watch : Watch
  pub count : ℕ
  pub text : List ℕ

abbrev pub untimed : Timing
untimed = record { watch = at_first; count = 0; text = [] }

-- one of them is said, if there is one
abbrev pub slipped : ℕ → Option Slip → Timing → Timing
slipped fall None t = t
slipped fall (Some slip) t = record t { count = one_more t.count; text = t.text ++ slip_line fall slip }

-- those of a pulse
abbrev pub slipped_all : ℕ → Slips → Timing → Timing
slipped_all fall slips t = slipped fall slips.settled (slipped fall slips.low (slipped fall slips.high t))

-- after a sample
abbrev pub timed : Sample → Timing → Timing
timed s t =
    slipped_all t.watch.fall (slips_at s.time s.lines t.watch) (record t { watch = watched s.time s.lines t.watch })

abbrev pub timed_all : List Sample → Timing → Timing
timed_all [] t = t
timed_all (s ∷ more) t = timed_all more (timed s t)
