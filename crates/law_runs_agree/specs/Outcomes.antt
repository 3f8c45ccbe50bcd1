-- What a run that is over has come to.
use Rattle.std.specs.Prelude.{◌≡◌, ℕ}
use Rattle.fw_compile.specs.Image.{image_of}
use Rattle.joint_feed.specs.Stories.{story}
use Rattle.key_file.specs.Accepted.{IsLawfulFor}
use Rattle.key_file.specs.Histories.{KeyHistory}
use Rattle.layout_reader.specs.Layouts.{IsKeyLayout, KeyLayout}
use Rattle.run_loop.specs.declared.ending.Ending.TheVariants.{TickStart}
use Rattle.run_loop.specs.Running.{IsOverAfter}
use Rattle.subsystem.specs.LayoutOutcomes.{IsOutcome, Outcome}

-- after the steps after which the run of a layout's image is over, under a history that is lawful for the layout, it
-- has reached an outcome, of as many steps
abbrev pub RunsComeToOutcomes : Type 0
RunsComeToOutcomes =
    (layout : KeyLayout) (history : KeyHistory) (steps : ℕ) → IsKeyLayout layout → IsLawfulFor layout history
    → IsOverAfter TickStart (story (image_of layout) history) steps
    → (run : Outcome) × IsOutcome (story (image_of layout) history) run × (run.steps ≡ steps)
