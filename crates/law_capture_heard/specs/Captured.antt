-- A trace, read as a capture: the samples that it has, and what is found in them.
use Rattle.std.specs.Prelude.{◌≡◌, ◌≤◌, ℕ, zero, suc, ◌*◌, Bool, List, [], ◌∷◌, ◌++◌, codes, Option, Some, None, if◌then◌else◌}
use Rattle.run_probes.specs.declared.heard.Sample.{Sample}
use Rattle.run_probes.specs.Transfers.{Ear, wires_at}
use Rattle.capture_lines.specs.Captures.{both, found_by}
use Rattle.joint_feed.specs.Stories.{Story, state_at}
use Rattle.joint_run.specs.Joint.{Beside}
use Rattle.joint_run.specs.Run.{World}
use Rattle.capture_vcd.specs.declared.state.Sample.{Sample as Captured}
use Rattle.capture_vcd.specs.Reads.{Reads, reads_of}
use Rattle.capture_frames.specs.declared.finding.Timed.{Timed}
use Rattle.capture_frames.specs.Listening.{Hearing, at_first, frame_at_end, heard_at, hearing_after, pulse_at_end}
use Rattle.run_wires.specs.Text.{differ}
use Rattle.run_wires.specs.Trace.{trace_to}
use Rattle.law_wires_heard.specs.Hearing.{heard_to, sample_in}

-- a sample of a run as one of a capture: a cycle is 2,500 ns
abbrev pub captured : Sample → Captured
captured x = record { time = 2500 * x.cycle; lines = x.lines }

-- the sample of a state, if its wires differ from those before
abbrev pub captured_in : Option (World Beside) → Ear → List Captured
captured_in None ear = []
captured_in (Some w) ear =
    if differ (wires_at ear.last) (sample_in w).lines then captured (sample_in w) ∷ [] else []

-- those of the first k steps
abbrev pub captured_to : Story → ℕ → List Captured
captured_to s zero = []
captured_to s (suc k) = captured_to s k ++ captured_in (state_at s (suc k)) (heard_to s k)

-- what a capture reads of the two wires in the trace of the first k steps, whether it has a third signal or not
abbrev pub capture_of : Bool → Story → ℕ → Reads
capture_of seen s k = reads_of (codes "clock") (codes "data") (trace_to seen s k)

-- a listener that has a sample after each step, whether its wires differ or not
abbrev pub hearing_in : Option (World Beside) → Hearing → Hearing
hearing_in None h = h
hearing_in (Some w) h = hearing_after (2500 * w.cycle) (sample_in w).lines h

abbrev pub hearing_to : Story → ℕ → Hearing
hearing_to s zero = at_first
hearing_to s (suc k) = hearing_in (state_at s (suc k)) (hearing_to s k)

-- what it finds in the sample of a state
abbrev pub found_in : Option (World Beside) → Hearing → List Timed
found_in None h = []
found_in (Some w) h =
    both (heard_at (2500 * w.cycle) (sample_in w).lines h).frame (heard_at (2500 * w.cycle) (sample_in w).lines h).pulse

-- in those of the first k steps
abbrev pub found_to : Story → ℕ → List Timed
found_to s zero = []
found_to s (suc k) = found_to s k ++ found_in (state_at s (suc k)) (hearing_to s k)

-- and if the capture ends there
abbrev pub found_at_end : Hearing → List Timed
found_at_end h = both (frame_at_end h) (pulse_at_end h)

-- the trace of so many steps is read to its end, and has just the samples at which a wire turns, each at its time. What
-- is found in them is what a listener finds that has a sample after each step
pub record ReadsBack (seen : Bool) (s : Story) (k : ℕ) : Type 0 where
  pub samples : capture_of seen s k ≡ record { samples = captured_to s k; fault = None }
  pub findings : found_by at_first (capture_of seen s k).samples ≡ found_to s k ++ found_at_end (hearing_to s k)

-- of any program under any history, whatever memory holds at power-on. A time has at most 14 digits, so it isn't said of
-- runs of more than 10^12 steps, which last 28 days at least
abbrev pub ReadBackLaw : Type 0
ReadBackLaw = (seen : Bool) (s : Story) (k : ℕ) → k ≤ 1000000000000 → ReadsBack seen s k
