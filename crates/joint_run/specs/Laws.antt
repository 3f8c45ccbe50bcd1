-- The law that a function of this crate carries.
use Rattle.std.specs.Prelude.{◌≡◌, ℕ, ◌+◌, true, List}
use Rattle.board_terms.specs.declared.event.Edge.{Edge}
use Rattle.board_terms.specs.declared.event.HostEvent.{HostEvent}
use Rattle.joint_run.specs.Run.{World}
use Rattle.joint_run.specs.Starts.{at_tick, IsNth, IsStart}
use Rattle.joint_run.specs.Joint.{Beside, joint_board, joint_start}

-- a tick start that is reached from one start to the next, n of them before it, is tick start n of the run
abbrev pub NumberedStarts : Type 0
NumberedStarts =
    (edges : List Edge) (events : List HostEvent) (tick_pc : ℕ) (bytes : List ℕ) (n stamp : ℕ) (w : World Beside)
    → IsNth (joint_board edges events) tick_pc bytes joint_start n w → at_tick (joint_board edges events) tick_pc w ≡ true
    → w.cycle ≡ 4096 + stamp → IsStart (joint_board edges events) tick_pc bytes joint_start n stamp
