-- What a run says, against what the model expects.
use Rattle.std.specs.Prelude.{◌≡◌, ◌≤◌, ◌<◌, ◌-◌, ℕ, length}
use Rattle.law_agreement.specs.Agreement.{IsPrompt}
use Rattle.board_terms.specs.Cadence.{KeepsCadenceTo, listed}
use Rattle.fw_compile.specs.Image.{image_of}
use Rattle.joint_feed.specs.Stories.{story}
use Rattle.key_file.specs.Accepted.{IsAccepted, IsLawfulFor}
use Rattle.key_file.specs.Histories.{KeyHistory}
use Rattle.layout_reader.specs.Layouts.{KeyLayout, IsKeyLayout}
use Rattle.model_link.specs.Expected.{expected_log}
use Rattle.law_quiet_log.specs.Quiet.{IsQuiet, quiet_log}
use Rattle.subsystem.specs.LayoutOutcomes.{Outcome, IsOutcome}

-- a run's log is the one that the model expects if its ticks start when the run's do, and these starts keep the
-- cadence: each is at its multiple of 2,048 or one cycle past it. For a quiet history the log is a function of layout and
-- history alone. If the history is accepted, it has fewer than 800,000 items
pub record IsAsExpected (layout : KeyLayout) (history : KeyHistory) (run : Outcome) : Type 0 where
  pub log : run.log ≡ expected_log layout history run.starts
  pub cadence : KeepsCadenceTo (listed run.starts) (length run.starts - 1)
  pub prompt : (n : ℕ) → n ≤ length run.starts - 1 → IsPrompt n (listed run.starts n)
  pub quiet : IsQuiet history → run.log ≡ quiet_log layout history
  pub few : IsAccepted history → length run.log < 800000

-- so it is with each run of a layout's compiled image under a history that is lawful for it
abbrev pub RunsAsExpected : Type 0
RunsAsExpected =
    (layout : KeyLayout) (history : KeyHistory) (run : Outcome) → IsKeyLayout layout → IsLawfulFor layout history
    → IsOutcome (story (image_of layout) history) run → IsAsExpected layout history run
