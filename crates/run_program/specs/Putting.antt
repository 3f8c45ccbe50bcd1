-- What is left of a run in which a put failed.
use Rattle.std.specs.Prelude.{ℕ, List}
use Rattle.run_program.specs.BoardOutcomes.{IsOutcome, Outcome}
use Rattle.run_program.specs.Texts.{log_text}
use Rattle.run_probes.specs.Probes.{Watch}
use Rattle.io_edge.specs.Said.{Shown}
use Rattle.joint_feed.specs.Stories.{Story}
use Rattle.run_loop.specs.declared.ending.Ending.TheVariants.{Stamp}
use Rattle.run_loop.specs.Broken.{IsTextBrokenOff}
use Rattle.run_loop.specs.Looking.{BrokeOff}
use Rattle.run_loop.specs.Looking as run
use Rattle.run_loop.specs.Running.{log_at, step_says}
use Rattle.run_loop.specs.Reports.{IsBrokenAfter}

-- the text of the run's whole log is broken off
abbrev pub IsLogBrokenOff : Story → Shown → Shown → Type 0
IsLogBrokenOff s before after = IsTextBrokenOff Outcome (IsOutcome s) (λ run. log_text run.log) before after

-- it is broken off in what the step after the first k says
abbrev pub IsLogBrokenAt : Story → Shown → Shown → ℕ → Type 0
IsLogBrokenAt s before after k = IsBrokenAfter before after (log_text (log_at s k)) (log_text (step_says s k))

-- and the probes have looked at the states up to the one that this step led to. Of a sink that doesn't show what it
-- took the step may be any
abbrev pub HaveLookedToBreak : Story → Shown → Shown → List Watch → List Watch → Type 0
HaveLookedToBreak s before after first probes = BrokeOff Stamp s (IsLogBrokenAt s before after) first probes

-- the probes have looked at the states that some first steps of the run lead to, of which there may be none
abbrev pub HaveLookedAtSome : Story → List Watch → List Watch → Type 0
HaveLookedAtSome s before after = run.HaveLookedAtSome Stamp s before after
