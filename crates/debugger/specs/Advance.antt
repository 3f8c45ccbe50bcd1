-- What is answered of a session's state.
use Rattle.std.specs.Prelude.{◌≡◌, Bool, Some}
use Rattle.joint_run.specs.Joint.{Beside}
use Rattle.joint_run.specs.Run.{World}
use Rattle.joint_run.specs.declared.machine.Machine.{Machine}
use Rattle.joint_feed.specs.Stories.{state_at}
use Rattle.run_probes.specs.Probes.{sight_in, sight_of}
use Rattle.debugger.specs.Sessions.{Sitting, session_is_over}

-- the machine has the processor, the counts and the wires of the run's state after so many steps
pub record IsStateAt (s : Sitting) (m : Machine) : Type 0 where
  pub world : World Beside
  pub state : state_at s.debuggee.story s.steps ≡ Some world
  pub mcu : m.mcu ≡ world.cpu
  pub cycle : m.cycle ≡ world.cycle
  pub steps : m.steps ≡ s.steps
  pub sight : sight_of m ≡ sight_in world

-- what is answered of a session is whether its run is over before its next step
abbrev pub DecidesSessionOver : Sitting → Bool → Type 0
DecidesSessionOver s answer =
    (w : World Beside) → state_at s.debuggee.story s.steps ≡ Some w → answer ≡ session_is_over s.debuggee w
