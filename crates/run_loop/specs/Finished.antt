-- A run at its end.
use Rattle.std.specs.Prelude.{◌≡◌}
use Rattle.joint_feed.specs.Stories.{Story}
use Rattle.run_loop.specs.declared.ending.Ending.{Ending}
use Rattle.run_loop.specs.declared.finished.Finished.{Finished}
use Rattle.run_loop.specs.Running.{IsEndAfter}

-- the machine is at the state after which the run ends
pub record IsFinished (e : Ending) (s : Story) (run : Finished) : Type 0 where
  pub after : IsEndAfter e s run.joint.steps run.end
  pub processor : run.joint.mcu ≡ after.world.cpu
  pub cycles : run.joint.cycle ≡ after.world.cycle
