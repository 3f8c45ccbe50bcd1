-- `board`, of an image and the text of a key file.
use Rattle.std.specs.Prelude.{ℕ, List}
use Rattle.run_probes.specs.Probes.{Watch}
use Rattle.key_file.specs.KeyFile.{history_of}
use Rattle.layout_reader.specs.Layouts.{KeyLayout}
use Rattle.app_words.specs.declared.words.BoardRun.{BoardRun}
use Rattle.app_answers.specs.FileAnswers.{Answer}
use Rattle.app_answers.specs.Leaving.{Left, OfHistory}
use Rattle.app_boards.specs.BoardAnswers.{MayAnswerBoard}

-- what may be said of the image and the text, which is read for the layout
abbrev pub MaySayOfBoard : BoardRun → List ℕ → KeyLayout → List ℕ → Answer → List Watch → Left → Type 0
MaySayOfBoard wanted image layout text answer probes left =
    OfHistory (λ history said kept. MayAnswerBoard wanted image history said probes kept) (history_of layout text) answer probes left
