-- Where a session over a layout's image ends.
use Rattle.std.specs.Prelude.{◌≡◌, ◌≤◌, ◌<◌, ℕ, true, false, List}
use Rattle.fw_compile.specs.Image.{image_of}
use Rattle.run_probes.specs.Probes.{Watch}
use Rattle.debugger.specs.Sessions.{Debuggee, has_ended, of_layout, walk}
use Rattle.joint_feed.specs.Stories.{story}
use Rattle.key_file.specs.Accepted.{IsLawfulFor}
use Rattle.key_file.specs.Histories.{KeyHistory}
use Rattle.layout_reader.specs.Layouts.{IsKeyLayout, KeyLayout}
use Rattle.subsystem.specs.LayoutOutcomes.{IsOutcome, Outcome}

-- a session ends after so many steps: it goes on before each of them, and has ended after the last; so as many steps,
-- or more, that are made from power-on lead there
pub record EndsAfter (d : Debuggee) (steps : ℕ) : Type 0 where
  pub goes_on : (k : ℕ) → k < steps → has_ended d k ≡ false
  pub ended : has_ended d steps ≡ true
  pub walked : (n : ℕ) (probes : List Watch) → steps ≤ n → (walk d n (record { steps = 0; probes = probes })).steps ≡ steps

-- over a layout's image it ends if the layout's run does, for each history that is lawful for the layout
abbrev pub SessionsEndWithRuns : Type 0
SessionsEndWithRuns =
    (layout : KeyLayout) (history : KeyHistory) (run : Outcome) → IsKeyLayout layout → IsLawfulFor layout history
    → IsOutcome (story (image_of layout) history) run → EndsAfter (of_layout (story (image_of layout) history)) run.steps
