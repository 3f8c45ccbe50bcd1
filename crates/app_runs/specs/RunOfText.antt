-- `run`, `expect` and `trace`, of a layout and the text of a key file.
use Rattle.std.specs.Prelude.{◌≡◌, ℕ, List, []}
use Rattle.run_probes.specs.Probes.{Watch}
use Rattle.key_file.specs.Histories.{KeyHistory}
use Rattle.key_file.specs.KeyFile.{history_of}
use Rattle.layout_reader.specs.Layouts.{KeyLayout}
use Rattle.app_words.specs.declared.words.RunCommand.{RunCommand}
use Rattle.app_answers.specs.FileAnswers.{Answer}
use Rattle.app_answers.specs.Leaving.{Left, OfHistory}
use Rattle.app_runs.specs.RunAnswers.{MayAnswerRun}

-- what may be answered of the run under a history, before which nothing is said
abbrev pub MaySayOfRun : RunCommand → KeyLayout → List Watch → KeyHistory → Answer → Left → Type 0
MaySayOfRun command layout probes history answer left =
    MayAnswerRun command layout history answer probes left × (left.log ≡ [])

-- what may be said of the text, which is read for the layout
abbrev pub MaySayOfText : RunCommand → KeyLayout → List ℕ → Answer → List Watch → Left → Type 0
MaySayOfText command layout text answer probes left =
    OfHistory (MaySayOfRun command layout probes) (history_of layout text) answer probes left
