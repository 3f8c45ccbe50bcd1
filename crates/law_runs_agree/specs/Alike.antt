-- What is run has one run.
use Rattle.std.specs.Prelude.{◌≡◌}
use Rattle.run_program.specs.BoardOutcomes as board
use Rattle.joint_feed.specs.Stories.{Story}
use Rattle.subsystem.specs.LayoutOutcomes.{IsOutcome, Outcome}

-- two runs say the same
pub record AreAlike (a b : Outcome) : Type 0 where
  pub log : a.log ≡ b.log
  pub starts : a.starts ≡ b.starts
  pub end : a.end ≡ b.end
  pub steps : a.steps ≡ b.steps
  pub cycles : a.cycles ≡ b.cycles

-- what is run has one run
abbrev pub RunsAreAlike : Type 0
RunsAreAlike = (s : Story) (a b : Outcome) → IsOutcome s a → IsOutcome s b → AreAlike a b

-- and one on the board
abbrev pub BoardsAreAlike : Type 0
BoardsAreAlike = (s : Story) (a b : board.Outcome) → board.IsOutcome s a → board.IsOutcome s b → a ≡ b
