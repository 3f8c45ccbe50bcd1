-- What an answer prints, and how it ends the call.
use Rattle.std.specs.Prelude.{◌≡◌, ◌⊎◌, ℕ, List, ◌++◌, Ok, Err}
use Rattle.io_edge.specs.Said.{IsBrokenOff, IsSaid, Shown}
use Rattle.app_words.specs.declared.exit.Exit.{Exit}
use Rattle.app_words.specs.declared.exit.Exit.TheVariants.{Done, Write}
use Rattle.app_answers.specs.FileAnswers.{Answer}
use Rattle.app_words.specs.Refusals.{exit_of, line_of}

-- the exit and the text of an answer
abbrev pub exit_said : Answer → Exit
exit_said (Ok text) = Done
exit_said (Err refusal) = exit_of refusal

abbrev pub text_said : Answer → List ℕ
text_said (Ok text) = text
text_said (Err refusal) = line_of refusal

-- the sink takes a log and then the whole text of the answer, line by line, or a put fails, and then what it took is a
-- prefix
abbrev pub Says : List ℕ → Answer → Shown → Shown → Exit → Type 0
Says log answer before after exit =
    ((exit ≡ exit_said answer) × IsSaid before after (log ++ text_said answer))
    ⊎ ((exit ≡ Write) × IsBrokenOff before after (log ++ text_said answer))
