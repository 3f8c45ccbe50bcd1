-- What is true of every joint machine.
use Rattle.std.specs.Prelude.{◌≤◌}
use Rattle.ctl_link.specs.Empty.{IsEmptyUnlessHeld}
use Rattle.joint_run.specs.declared.machine.Machine.{Machine}

-- each step takes a cycle at least; the controller's output buffer is empty unless it holds the keyboard off
pub record IsSound (m : Machine) : Type 0 where
  pub steps : m.steps ≤ m.cycle
  pub empty : IsEmptyUnlessHeld m.outside.desk.port
