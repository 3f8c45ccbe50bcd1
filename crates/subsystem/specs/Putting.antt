-- What a sink has of a run's text if a put failed.
use Rattle.std.specs.Prelude.{ℕ, suc, ◌-◌, List, length, map}
use Rattle.run_probes.specs.Probes.{Watch}
use Rattle.io_edge.specs.Said.{Shown}
use Rattle.joint_feed.specs.Stories.{Story}
use Rattle.model_link.specs.declared.line.LogLine.{LogLine}
use Rattle.run_loop.specs.declared.ending.Ending.TheVariants.{TickStart}
use Rattle.run_loop.specs.Broken.{IsTextBrokenOff}
use Rattle.run_loop.specs.Looking.{BrokeOff}
use Rattle.run_loop.specs.Running.{step_says}
use Rattle.run_loop.specs.Starts.{starts_among}
use Rattle.run_loop.specs.Reports.{IsBrokenAfter}
use Rattle.subsystem.specs.Account.{in_tick}
use Rattle.subsystem.specs.Progress.{lines_so_far}
use Rattle.subsystem.specs.LayoutOutcomes.{IsOutcome, Outcome}
use Rattle.subsystem.specs.Texts.{log_text}

-- the text of the run's whole log is broken off, as the run would have come to it
abbrev pub IsLogBrokenOff : Story → Shown → Shown → Type 0
IsLogBrokenOff s before after = IsTextBrokenOff Outcome (IsOutcome s) (λ run. log_text run.log) before after

-- the lines of what the step after the first k says, in the tick that started last
abbrev pub step_lines : Story → ℕ → List LogLine
step_lines s k = map (in_tick (length (starts_among s (suc k)) - 1)) (step_says s k)

-- it is broken off in these lines
abbrev pub IsLogBrokenAt : Story → Shown → Shown → ℕ → Type 0
IsLogBrokenAt s before after k = IsBrokenAfter before after (log_text (lines_so_far s k)) (log_text (step_lines s k))

-- and the probes have looked at the states up to the one that this step led to. Of a sink that doesn't show what it
-- took the step may be any
abbrev pub HaveLookedToBreak : Story → Shown → Shown → List Watch → List Watch → Type 0
HaveLookedToBreak s before after first probes = BrokeOff TickStart s (IsLogBrokenAt s before after) first probes
