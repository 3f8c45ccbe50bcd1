-- `board`, of the image that `compile` makes of a layout, beside `run` and `trace` of the layout.
use Rattle.std.specs.Prelude.{◌≡◌, ◌⊎◌, ℕ, Bool, false, List, [], ◌++◌, Ok, Err}
use Rattle.law_runs_agree.specs.Boards.{SaysRun}
use Rattle.run_program.specs.BoardOutcomes as board
use Rattle.run_program.specs.Texts.{log_text as stamped_text}
use Rattle.fw_compile.specs.Image.{image_of}
use Rattle.run_probes.specs.Probes.{Watch}
use Rattle.joint_feed.specs.Stories.{Story, story}
use Rattle.key_file.specs.Accepted.{IsAcceptedFor}
use Rattle.key_file.specs.Histories.{KeyHistory}
use Rattle.layout_reader.specs.Layouts.{IsKeyLayout, KeyLayout}
use Rattle.subsystem.specs.LayoutOutcomes.{Outcome}
use Rattle.subsystem.specs.Texts.{log_text}
use Rattle.app_words.specs.declared.refusal.Refusal.TheVariants.{Memory}
use Rattle.app_words.specs.declared.words.BoardCommand.TheVariants as board_commands
use Rattle.app_words.specs.declared.words.RunCommand.TheVariants.{Log, Trace}
use Rattle.app_answers.specs.Leaving.{Left}
use Rattle.app_boards.specs.BoardAnswers.{MayAnswerBoard}
use Rattle.app_runs.specs.RunAnswers.{MayAnswerRun}
use Rattle.app_answers.specs.FileAnswers.{Answer}
use Rattle.app_words.specs.Words.{on_board}

-- a text has a line with its tick for each item that a run said, and a log has a line with its stamp for each that was
-- said up to the end stamp
pub record SaysText (s : Story) (ran said : List ℕ) : Type 0 where
  pub run : Outcome
  pub board : board.Outcome
  pub says_so : SaysRun s board run
  pub text : ran ≡ log_text run.log
  pub log : said ≡ stamped_text board.log

-- so do the text of `run` and the log of `board`, which says no more than that, of the same layout and history, if
-- memory doesn't run out
abbrev pub BoardSaysRun : Type 0
BoardSaysRun = (of : KeyLayout) (history : KeyHistory) (text : List ℕ) (answer : Answer) (probes others : List Watch)
    (left kept : Left) → IsKeyLayout of → IsAcceptedFor of history
    → MayAnswerRun (Log false false) of history (Ok text) probes left
    → MayAnswerBoard (on_board (board_commands.Log false) 0) (image_of of) history answer others kept
    → (answer ≡ Err Memory)
    ⊎ ((answer ≡ Ok []) × SaysText (story (image_of of) history) text kept.log)

-- and the text of `trace` begins with that of `board --trace`, and that of `trace --seen` with that of `board --seen`
abbrev pub BoardTracesRun : Type 0
BoardTracesRun = (seen : Bool) (of : KeyLayout) (history : KeyHistory) (text : List ℕ) (answer : Answer) (probes others : List Watch)
    (left kept : Left) → IsKeyLayout of → IsAcceptedFor of history
    → MayAnswerRun (Trace seen) of history (Ok text) probes left
    → MayAnswerBoard (on_board (board_commands.Trace seen) 0) (image_of of) history answer others kept
    → (answer ≡ Err Memory) ⊎ ((answer ≡ Ok []) × (more : List ℕ) × (text ≡ kept.log ++ more))
