-- Probes that ride on a run.
use Rattle.std.specs.Prelude.{◌≡◌, ℕ, suc, List, Some}
use Rattle.run_probes.specs.Looks.{looks}
use Rattle.run_probes.specs.Probes.{Watch}
use Rattle.joint_feed.specs.Stories.{Story, state_at}
use Rattle.joint_run.specs.Joint.{Beside}
use Rattle.joint_run.specs.Run.{World}
use Rattle.run_loop.specs.declared.ending.Ending.{Ending}
use Rattle.run_loop.specs.Running.{GoesOnTo}

-- they have looked at the states that some first steps of the run lead to, of which there may be none
pub record HaveLookedAtSome (e : Ending) (s : Story) (before after : List Watch) : Type 0 where
  pub steps : ℕ
  pub goes_on : GoesOnTo e s steps
  pub looked : after ≡ looks s steps before

-- the report of a run broke off at the step after the first `last` ones, which the run makes; the probes have looked
-- at the states up to the one that it led to, and at no other
pub record BrokeOff (e : Ending) (s : Story) (broken : ℕ → Type 0) (before after : List Watch) : Type 0 where
  pub last : ℕ
  pub goes_on : GoesOnTo e s (suc last)
  pub led_to : World Beside
  pub made : state_at s (suc last) ≡ Some led_to
  pub broken_so : broken last
  pub looked : after ≡ looks s (suc last) before
