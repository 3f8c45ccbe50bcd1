-- What may be answered of a script over the run of what is debugged.
use Rattle.std.specs.Prelude.{◌≡◌, ◌⊎◌, ℕ, List, length, None, Some, Ok, Err}
use Rattle.std.specs.declared.option.Option.{Option}
use Rattle.run_probes.specs.Probes.{Watch}
use Rattle.debugger.specs.Obeyed.{IsObeyed, IsObeyedInPart}
use Rattle.debugger.specs.Sessions.{Debuggee}
use Rattle.app_words.specs.declared.refusal.Refusal.TheVariants.{Script, Memory}
use Rattle.app_answers.specs.FileAnswers.{Answer}
use Rattle.app_answers.specs.Leaving.{Left}
use Rattle.app_boards.specs.Debugging.{script_fault}

-- what may be answered of a script over the run of what is debugged, by its first fault: one with a fault is refused
-- before a line of it is obeyed; of any other the lines are obeyed, or, if memory ran out, the first ones,
-- however many
abbrev pub MayAnswerSession : Option (ℕ × ℕ) → Debuggee → List ℕ → Answer → List Watch → Left → Type 0
MayAnswerSession (Some fault) s script answer probes left =
    (answer ≡ Err (Script fault.0 fault.1)) × (left.probes ≡ probes)
MayAnswerSession None s script answer probes left =
    ((answer ≡ Err Memory) × IsObeyedInPart s script probes left.probes)
    ⊎ ((text : List ℕ) × IsObeyed s script probes text left.probes × (answer ≡ Ok text))

-- what may be answered of a script for these probes, by the first fault that it has for as many
abbrev pub MayAnswerDebug : Debuggee → List ℕ → Answer → List Watch → Left → Type 0
MayAnswerDebug s script answer probes left =
    MayAnswerSession (script_fault (length probes) script) s script answer probes left
