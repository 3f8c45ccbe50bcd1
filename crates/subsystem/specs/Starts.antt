-- The tick starts of a run whose log isn't kept.
use Rattle.std.specs.Prelude.{◌≡◌, ℕ, List}
use Rattle.run_probes.specs.Looks.{looks}
use Rattle.run_probes.specs.Probes.{Watch}
use Rattle.joint_feed.specs.Stories.{Story}
use Rattle.subsystem.specs.LayoutOutcomes.{IsOutcome, Outcome}

-- they are those of the run, and the probes have looked at the state after each of its steps
pub record AreStartsOf (s : Story) (starts : List ℕ) (before after : List Watch) : Type 0 where
  pub run : Outcome
  pub is : IsOutcome s run
  pub same : starts ≡ run.starts
  pub looked : after ≡ looks s run.steps before
