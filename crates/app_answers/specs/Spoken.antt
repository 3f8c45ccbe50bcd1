-- An answer as the code has it: still to be said, or said as it arose.
use Rattle.std.specs.Prelude.{◌≡◌, ◌⊎◌, ℕ, List, [], ◌++◌, Ok, Err}
use Rattle.std.specs.declared.alloc.Global.{Global}
use Rattle.std.specs.declared.result.Result.{Result}
use Rattle.std.specs.declared.vec.Vec.{Vec}
use Rattle.io_edge.specs.Said.{IsBrokenOff, IsSaid, Shown}
use Rattle.app_words.specs.declared.refusal.Refusal.{Refusal}
use Rattle.app_words.specs.declared.refusal.Refusal.TheVariants as refusals
use Rattle.app_answers.specs.declared.spoken.Spoken.{Spoken}
use Rattle.app_answers.specs.declared.spoken.Spoken.TheVariants.{Text, Said, Stuck, Captured}
use Rattle.app_words.specs.declared.exit.Exit.{Exit}
use Rattle.app_words.specs.declared.exit.Exit.TheVariants.{Done, Write}
use Rattle.app_answers.specs.FileAnswers.{Answer}
use Rattle.app_words.specs.Refusals.{exit_of, line_of}
use Rattle.app_answers.specs.Says.{text_said}
use Rattle.app_answers.specs.Taking.{Taking, Whole, CutOff}

-- an answer of the code, nothing of which is said yet
abbrev pub still_to_say : Result (Vec ℕ Global) Refusal → Result Spoken Refusal
still_to_say (Ok text) = Ok (Text text)
still_to_say (Err refusal) = Err refusal

-- which answers may be given, by how much is taken, after which log
abbrev pub May : Type 1
May = Answer → Taking → List ℕ → Type 0

-- nothing of the answer is said, and it may be given however much of it will be taken
abbrev pub IsUnsaid : May → Answer → Shown → Shown → Type 0
IsUnsaid may answer before after = ((taking : Taking) → may answer taking []) × (after ≡ before)

-- a log was said: the answer may be given if its line is taken, or is broken off
abbrev pub IsSaidAfter : May → Answer → Shown → Shown → Type 0
IsSaidAfter may answer before after =
    (log : List ℕ) × may answer Whole log
    × ((later : Shown) → IsBrokenOff after later (text_said answer) → may answer (CutOff before later) log)
    × IsSaid before after log

-- a refusal and a text are still to be said; any other text was said after its log, whole or up to a put that failed;
-- of a run that is stuck the log was said, and of a capture with a fault what is found before it
abbrev pub IsSpoken : May → Result Spoken Refusal → Shown → Shown → Type 0
IsSpoken may (Err refusal) before after = IsUnsaid may (Err refusal) before after
IsSpoken may (Ok (Text text)) before after = IsUnsaid may (Ok text.items) before after
IsSpoken may (Ok (Said (Ok done))) before after =
    (text : List ℕ) × (log : List ℕ) × may (Ok text) Whole log × IsSaid before after (log ++ text)
IsSpoken may (Ok (Said (Err fault))) before after =
    (answer : Answer) × (log : List ℕ) × may answer (CutOff before after) log
    × IsBrokenOff before after (log ++ text_said answer)
IsSpoken may (Ok (Stuck place)) before after = IsSaidAfter may (Err (refusals.Stuck place)) before after
IsSpoken may (Ok (Captured fault)) before after = IsSaidAfter may (Err (refusals.Vcd fault.line fault.number)) before after

-- a text is printed, and ends the call so; or a put failed
abbrev pub Prints : List ℕ → Exit → Shown → Shown → Exit → Type 0
Prints text whole before after exit =
    ((exit ≡ whole) × IsSaid before after text) ⊎ ((exit ≡ Write) × IsBrokenOff before after text)

-- what is left to be said is printed
abbrev pub Concludes : Result Spoken Refusal → Shown → Shown → Exit → Type 0
Concludes (Err refusal) before after exit = Prints (line_of refusal) (exit_of refusal) before after exit
Concludes (Ok (Text text)) before after exit = Prints text.items Done before after exit
Concludes (Ok (Said (Ok done))) before after exit = (exit ≡ Done) × (after ≡ before)
Concludes (Ok (Said (Err fault))) before after exit = (exit ≡ Write) × (after ≡ before)
Concludes (Ok (Stuck place)) before after exit =
    Prints (line_of (refusals.Stuck place)) (exit_of (refusals.Stuck place)) before after exit
Concludes (Ok (Captured fault)) before after exit =
    let refusal : Refusal = refusals.Vcd fault.line fault.number in
    Prints (line_of refusal) (exit_of refusal) before after exit
