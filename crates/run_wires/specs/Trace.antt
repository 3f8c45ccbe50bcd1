-- The trace of a run: a sample after each of its steps. `seen` says whether data as the controller sees it is asked for.
use Rattle.std.specs.Prelude.{ℕ, zero, suc, Bool, List, [], ◌++◌, Some, None, if◌then◌else◌}
use Rattle.std.specs.declared.option.Option.{Option}
use Rattle.joint_feed.specs.Stories.{Story, state_at}
use Rattle.joint_run.specs.Joint.{Beside}
use Rattle.joint_run.specs.Run.{World}
use Rattle.run_probes.specs.Transfers.{Ear}
use Rattle.law_wires_heard.specs.Hearing.{heard_to, sample_in}
use Rattle.run_wires.specs.Seen.{level_seen}
use Rattle.run_wires.specs.Text.{header, sample_text}

-- data as the controller sees it in a state
abbrev pub seen_in : World Beside → Bool
seen_in w = level_seen w.board.pc.side.port.link (sample_in w).lines

-- the same, if it is asked for
abbrev pub seen_if : Bool → World Beside → Option Bool
seen_if seen w = if seen then Some (seen_in w) else None

-- what the sample of a state adds, if there is one
abbrev pub text_in : Bool → Option (World Beside) → Ear → List ℕ
text_in seen None ear = []
text_in seen (Some w) ear = sample_text (sample_in w) (seen_if seen w) ear

-- what the samples of the first k steps add
abbrev pub changes_to : Bool → Story → ℕ → List ℕ
changes_to seen s zero = []
changes_to seen s (suc k) = changes_to seen s k ++ text_in seen (state_at s (suc k)) (heard_to s k)

-- the text after the first k steps
abbrev pub trace_to : Bool → Story → ℕ → List ℕ
trace_to seen s k = header seen ++ changes_to seen s k
