-- A part that holds 00 all over is one with cleared memory.
use Rattle.std.specs.Prelude.{◌≡◌, ℕ, List}
use Rattle.std.proofs.Common.{refl}
use Rattle.board_terms.specs.declared.event.Edge.{Edge}
use Rattle.board_terms.specs.declared.event.HostEvent.{HostEvent}
use Rattle.joint_run.specs.Filled.{filled}
use Rattle.joint_run.specs.History.{IsInRun, IsInRunFrom}
use Rattle.joint_run.specs.Joint.{Beside}
use Rattle.joint_run.specs.Run.{World}
use Rattle.joint_run.specs.declared.machine.Machine.{Machine}
use Rattle.mcs48_core.specs.Reset.{reset_cpu}

filled_with_00 : filled 0 ≡ reset_cpu
filled_with_00 = refl

-- so a keyboard that was just opened is in the run that `run` and `board` make
opened_in_run : (edges : List Edge) (events : List HostEvent) (m : Machine) (made : ℕ) (w : World Beside)
    → IsInRunFrom (filled 0) edges events m made w → IsInRun edges events m made w
opened_in_run edges events m made w h = h
