-- What may be answered of the run of a program on the board.
use Rattle.std.specs.Prelude.{◌≡◌, ◌⊎◌, ℕ, List, [], Err}
use Rattle.run_probes.specs.Probes.{Watch}
use Rattle.run_program.specs.BoardOutcomes as board
use Rattle.joint_feed.specs.Stories.{Story}
use Rattle.key_file.specs.Histories.{KeyHistory}
use Rattle.app_words.specs.declared.refusal.Refusal.TheVariants.{Memory}
use Rattle.app_words.specs.declared.words.BoardCommand.{BoardCommand}
use Rattle.app_words.specs.declared.words.BoardRun.{BoardRun}
use Rattle.app_answers.specs.FileAnswers.{Answer}
use Rattle.app_answers.specs.Leaving.{Left}
use Rattle.app_boards.specs.BoardTexts.{AreLeftOnBoard, board_log, board_said, board_story}

-- the run of a program on the board is reported: its log, or its trace, is said before the answer
abbrev pub IsBoardSaid : BoardCommand → Story → Answer → List Watch → Left → Type 0
IsBoardSaid wanted s answer probes left =
    (run : board.Outcome) × board.IsOutcome s run × (left.log ≡ board_log wanted s run)
    × (answer ≡ board_said wanted run run.end) × AreLeftOnBoard wanted s run left.taking probes left.probes

-- what may be answered of such a run under a history; no memory runs out once it has begun
abbrev pub MayAnswerBoard : BoardRun → List ℕ → KeyHistory → Answer → List Watch → Left → Type 0
MayAnswerBoard wanted image history answer probes left =
    ((answer ≡ Err Memory) × (left.log ≡ []) × (left.probes ≡ probes))
    ⊎ IsBoardSaid wanted.prints_what (board_story wanted image history) answer probes left
