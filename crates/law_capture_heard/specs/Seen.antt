-- A trace that has data as the controller sees it, read by this signal: the samples of it and of the clock.
use Rattle.std.specs.Prelude.{◌≡◌, ◌≤◌, ℕ, zero, suc, ◌*◌, Bool, true, List, [], ◌∷◌, ◌++◌, codes, Option, Some, None}
use Rattle.std.specs.Prelude.{if◌then◌else◌}
use Rattle.run_probes.specs.Transfers.{Ear, wires_at}
use Rattle.board_terms.specs.declared.lines.Lines.{Lines}
use Rattle.joint_feed.specs.Stories.{Story, state_at}
use Rattle.joint_run.specs.Joint.{Beside}
use Rattle.joint_run.specs.Run.{World}
use Rattle.capture_vcd.specs.declared.state.Sample.{Sample as Captured}
use Rattle.capture_vcd.specs.Reads.{Reads, reads_of}
use Rattle.run_wires.specs.Text.{differ}
use Rattle.run_wires.specs.Trace.{seen_in, trace_to}
use Rattle.law_wires_heard.specs.Hearing.{heard_to, sample_in}

-- what a capture reads of the clock and of data as the controller sees it, in the trace of the first k steps
abbrev pub capture_seen : Story → ℕ → Reads
capture_seen s k = reads_of (codes "clock") (codes "data_seen") (trace_to true s k)

-- data as the controller saw it when a wire turned last, after one more state
abbrev pub level_by : Option (World Beside) → Ear → Bool → Bool
level_by None ear before = before
level_by (Some w) ear before = if differ (wires_at ear.last) (sample_in w).lines then seen_in w else before

-- after the first k steps; it is high at first
abbrev pub level_to : Story → ℕ → Bool
level_to s zero = true
level_to s (suc k) = level_by (state_at s (suc k)) (heard_to s k) (level_to s k)

-- the clock, with this level of data
abbrev pub with_data : Lines → Bool → Lines
with_data wires level = record wires { dat = level }

-- the sample of a time, if the levels differ from those before
abbrev pub sample_of : ℕ → Lines → Lines → List Captured
sample_of time before now = if differ before now then record { time = time; lines = now } ∷ [] else []

-- the sample of a state, if a wire turns
abbrev pub seen_sample_in : Option (World Beside) → Ear → Bool → List Captured
seen_sample_in None ear before = []
seen_sample_in (Some w) ear before =
    if differ (wires_at ear.last) (sample_in w).lines
    then sample_of (2500 * w.cycle) (with_data (wires_at ear.last) before) (with_data (sample_in w).lines (seen_in w))
    else []

-- those of the first k steps
abbrev pub seen_samples_to : Story → ℕ → List Captured
seen_samples_to s zero = []
seen_samples_to s (suc k) = seen_samples_to s k ++ seen_sample_in (state_at s (suc k)) (heard_to s k) (level_to s k)

-- the trace of so many steps is read to its end, and has just these samples: of any program under any history, whatever
-- memory holds at power-on
abbrev pub SeenBackLaw : Type 0
SeenBackLaw =
    (s : Story) (k : ℕ) → k ≤ 1000000000000 → capture_seen s k ≡ record { samples = seen_samples_to s k; fault = None }
