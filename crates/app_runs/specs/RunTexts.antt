-- `run`, `expect` and `trace`: what is printed of the run of a layout's compiled image under a key history, and how it
-- leaves the probes that ride on it.
use Rattle.std.specs.Prelude.{◌≡◌, ◌⊎◌, ℕ, suc, Bool, List, [], ◌∷◌, ◌++◌, codes, decimal, if◌then◌else◌}
use Rattle.fw_compile.specs.Image.{image_of}
use Rattle.run_probes.specs.Probes.{Watch}
use Rattle.io_edge.specs.Said.{Shown}
use Rattle.joint_feed.specs.Stories.{Story, story}
use Rattle.key_file.specs.Histories.{KeyHistory}
use Rattle.layout_reader.specs.Layouts.{KeyLayout}
use Rattle.model_link.specs.Expected.{expected_log}
use Rattle.mcs48_core.specs.StateText.{state_text_of}
use Rattle.run_loop.specs.Reports.{IsBrokenAfter}
use Rattle.subsystem.specs.Agreement.{IsAsExpected}
use Rattle.subsystem.specs.Looking.{HaveLookedAtSome}
use Rattle.subsystem.specs.Putting.{HaveLookedToBreak}
use Rattle.subsystem.specs.LayoutOutcomes.{IsOutcome, Outcome}
use Rattle.subsystem.specs.Texts.{log_text}
use Rattle.run_wires.specs.Trace.{trace_to}
use Rattle.law_wires_heard.specs.Hearing.{HearsAll}
use Rattle.app_words.specs.declared.words.RunCommand.{RunCommand}
use Rattle.app_words.specs.declared.words.RunCommand.TheVariants.{Log, Expect, Trace}
use Rattle.app_answers.specs.Leaving.{HaveLookedAtAll}
use Rattle.app_answers.specs.Taking.{Taking, Whole, CutOff}

-- a tick start: its number, counted from 0, and its stamp
abbrev pub start_line : ℕ → ℕ → List ℕ
start_line number stamp = codes "start " ++ decimal number ++ codes " " ++ decimal stamp ++ codes "\n"

-- one line a tick start, of which the first has this number
abbrev pub start_lines : ℕ → List ℕ → List ℕ
start_lines number [] = []
start_lines number (stamp ∷ stamps) = start_line number stamp ++ start_lines (suc number) stamps

-- the run's log, then with `--ticks` its tick starts, and then with `--steps` the state at its end
abbrev pub run_text : Bool → Bool → Outcome → List ℕ
run_text ticks steps run =
    (log_text run.log ++ (if ticks then start_lines 0 run.starts else []))
    ++ (if steps then state_text_of run.end run.steps run.cycles else [])

-- the model's log at the run's tick starts
abbrev pub expected_text : KeyLayout → KeyHistory → Outcome → List ℕ
expected_text layout history run = log_text (expected_log layout history run.starts)

-- the two wires in the run, as they change, with the bytes that pass over them; and with `--seen` data as the controller
-- sees it
abbrev pub trace_text : Bool → KeyLayout → KeyHistory → Outcome → List ℕ
trace_text seen layout history run = trace_to seen (story (image_of layout) history) run.steps

abbrev pub text_of_run : RunCommand → KeyLayout → KeyHistory → Outcome → List ℕ
text_of_run (Log ticks steps) layout history run = run_text ticks steps run
text_of_run Expect layout history run = expected_text layout history run
text_of_run (Trace seen) layout history run = trace_text seen layout history run

-- the bytes in a trace's comments are those that the controller takes and sends, in order
abbrev pub IsHeard : RunCommand → KeyLayout → KeyHistory → Type 0
IsHeard (Log ticks steps) layout history = Unit {0}
IsHeard Expect layout history = Unit {0}
IsHeard (Trace seen) layout history = HearsAll (story (image_of layout) history)

-- the text is the one of the run of the layout's compiled image under this history, whose log is the one that the model
-- expects at the run's own tick starts
abbrev pub IsRunText : RunCommand → KeyLayout → KeyHistory → List ℕ → Outcome → Type 0
IsRunText command layout history text run =
    IsOutcome (story (image_of layout) history) run × IsAsExpected layout history run
    × (text ≡ text_of_run command layout history run) × IsHeard command layout history

-- each has looked at the states after the run's first steps, however many
abbrev pub HaveLooked : KeyLayout → KeyHistory → List Watch → List Watch → Type 0
HaveLooked layout history probes left = HaveLookedAtSome (story (image_of layout) history) probes left

-- what `run` says after the log
abbrev pub text_after_log : Bool → Bool → Outcome → List ℕ
text_after_log ticks steps run =
    (if ticks then start_lines 0 run.starts else [])
    ++ (if steps then state_text_of run.end run.steps run.cycles else [])

-- the text of `run` is broken off in a line of its log, and each probe has looked at the states up to the one that the
-- step which said this line led to; or after its log, and each has looked at all states
abbrev pub HaveLookedToCut : Bool → Bool → Story → Outcome → Shown → Shown → List Watch → List Watch → Type 0
HaveLookedToCut ticks steps s run before after probes left =
    HaveLookedToBreak s before after probes left
    ⊎ (IsBrokenAfter before after (log_text run.log) (text_after_log ticks steps run)
    × HaveLookedAtAll s run.steps probes left)

-- how the probes are left if the text is said, whole or up to a put that failed: `run` says its lines as they arise,
-- and ends at such a put; `expect` has made the run before it says anything; and at the run of `trace` none looks
abbrev pub AreLeft : RunCommand → KeyLayout → KeyHistory → Outcome → Taking → List Watch → List Watch → Type 0
AreLeft (Log ticks steps) layout history run Whole probes left =
    HaveLookedAtAll (story (image_of layout) history) run.steps probes left
AreLeft (Log ticks steps) layout history run (CutOff before after) probes left =
    HaveLookedToCut ticks steps (story (image_of layout) history) run before after probes left
AreLeft Expect layout history run taking probes left =
    HaveLookedAtAll (story (image_of layout) history) run.steps probes left
AreLeft (Trace seen) layout history run taking probes left = left ≡ probes

-- how they are left if memory runs out: in `run` and `trace` it does only before one of them has looked
abbrev pub AreLeftWithoutMemory : RunCommand → KeyLayout → KeyHistory → List Watch → List Watch → Type 0
AreLeftWithoutMemory (Log ticks steps) layout history probes left = left ≡ probes
AreLeftWithoutMemory Expect layout history probes left = HaveLooked layout history probes left
AreLeftWithoutMemory (Trace seen) layout history probes left = left ≡ probes
