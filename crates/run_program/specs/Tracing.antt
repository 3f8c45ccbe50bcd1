-- What is left of a trace on the board in which a put failed.
use Rattle.std.specs.Prelude.{Bool}
use Rattle.run_program.specs.BoardOutcomes.{IsOutcome, Outcome}
use Rattle.io_edge.specs.Said.{Shown}
use Rattle.joint_feed.specs.Stories.{Story}
use Rattle.run_loop.specs.Broken.{IsTextBrokenOff}
use Rattle.run_wires.specs.Trace.{trace_to}

-- the trace of the whole run is broken off
abbrev pub IsTraceBrokenOff : Bool → Story → Shown → Shown → Type 0
IsTraceBrokenOff seen s before after = IsTextBrokenOff Outcome (IsOutcome s) (λ run. trace_to seen s run.steps) before after
