-- `board`: what is said of the run of a program on the board, and how it leaves the probes that ride on it.
use Rattle.std.specs.Prelude.{◌⊎◌, ℕ, List, [], Ok, Err, if◌then◌else◌}
use Rattle.run_program.specs.Putting.{HaveLookedToBreak}
use Rattle.run_program.specs.BoardOutcomes.{Outcome}
use Rattle.run_program.specs.Texts.{log_text}
use Rattle.run_loop.specs.declared.ending.End.{End}
use Rattle.run_loop.specs.declared.ending.End.TheVariants.{Reached, Stuck}
use Rattle.run_probes.specs.Probes.{Watch}
use Rattle.io_edge.specs.Said.{Shown}
use Rattle.joint_feed.specs.Filled.{filled_story}
use Rattle.joint_feed.specs.Stories.{Story}
use Rattle.key_file.specs.Histories.{KeyHistory}
use Rattle.mcs48_core.specs.StateText.{state_text_of}
use Rattle.run_loop.specs.Reports.{IsBrokenAfter}
use Rattle.run_loop.specs.declared.ending.Ending.TheVariants.{Stamp}
use Rattle.run_wires.specs.Ending.{HaveTracedToBreak}
use Rattle.run_wires.specs.Trace.{trace_to}
use Rattle.app_words.specs.declared.refusal.Refusal.TheVariants as refusals
use Rattle.app_words.specs.declared.words.BoardCommand.{BoardCommand}
use Rattle.app_words.specs.declared.words.BoardCommand.TheVariants.{Log, Trace}
use Rattle.app_words.specs.declared.words.BoardRun.{BoardRun}
use Rattle.app_answers.specs.FileAnswers.{Answer}
use Rattle.app_answers.specs.Leaving.{HaveLookedAtAll}
use Rattle.app_answers.specs.Says.{text_said}
use Rattle.app_answers.specs.Taking.{Taking, Whole, CutOff}

-- what runs: the image, in a part that holds the byte of `--fill` at power-on, under the history
abbrev pub board_story : BoardRun → List ℕ → KeyHistory → Story
board_story wanted image history = filled_story wanted.fill image history

-- what is said of a run as it is made: its log, or its two wires, as they change, and with `--seen` data as the controller
-- sees it
abbrev pub board_log : BoardCommand → Story → Outcome → List ℕ
board_log (Log steps) s run = log_text run.log
board_log (Trace seen) s run = trace_to seen s run.steps

-- what is said after that, if the run is over: with `--steps`, the state at its end
abbrev pub board_end : BoardCommand → Outcome → List ℕ
board_end (Log steps) run = if steps then state_text_of run.mcu run.steps run.cycles else []
board_end (Trace seen) run = []

-- the answer after it: of a run that is stuck, if it is
abbrev pub board_said : BoardCommand → Outcome → End → Answer
board_said wanted run Reached = Ok (board_end wanted run)
board_said wanted run (Stuck place) = Err (refusals.Stuck place)

-- the log, or the trace, is broken off, and each probe has looked at the states up to the one that the step which said
-- the broken line led to; in a trace's header, at none
abbrev pub HaveLookedToLine : BoardCommand → Story → Shown → Shown → List Watch → List Watch → Type 0
HaveLookedToLine (Log steps) s before after probes left = HaveLookedToBreak s before after probes left
HaveLookedToLine (Trace seen) s before after probes left = HaveTracedToBreak seen Stamp s before after probes left

-- each has looked at the state after each step; if a put failed, at those up to the broken line, or, after the log,
-- at all of them
abbrev pub AreLeftOnBoard : BoardCommand → Story → Outcome → Taking → List Watch → List Watch → Type 0
AreLeftOnBoard wanted s run Whole probes left = HaveLookedAtAll s run.steps probes left
AreLeftOnBoard wanted s run (CutOff before after) probes left =
    HaveLookedToLine wanted s before after probes left
    ⊎ (IsBrokenAfter before after (board_log wanted s run) (text_said (board_said wanted run run.end))
    × HaveLookedAtAll s run.steps probes left)
