-- What probes have looked at in a run.
use Rattle.std.proofs.Common.{◌≡◌, ℕ, List}
use Rattle.run_probes.specs.Looks.{looks}
use Rattle.run_probes.specs.Probes.{Watch}
use Rattle.joint_feed.specs.Stories.{Story}
use Rattle.run_loop.specs.declared.ending.Ending.{Ending}
use Rattle.run_loop.specs.Looking.{HaveLookedAtSome}
use Rattle.run_loop.specs.Running.{GoesOnTo}

-- probes that have looked at each state up to one that the run has come to have looked at those of some first steps
pub some_looked : (e : Ending) (s : Story) (before after : List Watch) (k : ℕ) → GoesOnTo e s k → after ≡ looks s k before
    → HaveLookedAtSome e s before after
some_looked e s before after k on h = record { steps = k; goes_on = on; looked = h }
