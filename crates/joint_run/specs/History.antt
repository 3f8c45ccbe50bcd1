-- The machine in the joint run under a history: lists of edges and of the host's events.
use Rattle.std.specs.Prelude.{◌≡◌, ℕ, ◌+◌, suc, List, [], ◌++◌, length, take, drop, Some, None, Ok, Err}
use Rattle.std.specs.declared.result.Result.{Result}
use Rattle.board_terms.specs.declared.event.Edge.{Edge}
use Rattle.board_terms.specs.declared.event.HostEvent.{HostEvent}
use Rattle.board_terms.specs.Edges.{AreInOrder}
use Rattle.board_terms.specs.Matrix.{all_up, turned_by}
use Rattle.mcs48_core.specs.Cpu.{Cpu}
use Rattle.mcs48_core.specs.Reset.{reset_cpu}
use Rattle.mcs48_core.specs.declared.stepping.Stuck.{Stuck}
use Rattle.joint_run.specs.declared.due.Due.{Due}
use Rattle.joint_run.specs.declared.due.Seen.{Seen}
use Rattle.joint_run.specs.Run.{World, run_at}
use Rattle.joint_run.specs.Joint.{Beside, joint_board, joint_start_of}
use Rattle.joint_run.specs.declared.machine.Machine.{Machine}
use Rattle.joint_run.specs.Due.{outside_of, made_first}

-- the machine is the state after its number of steps of the joint run of a part that held this when it was switched
-- on, so many of the edges being made
pub record IsInRunFrom (held : Cpu) (edges : List Edge) (events : List HostEvent) (m : Machine) (made : ℕ)
    (w : World Beside) : Type 0 where
  pub run : run_at (joint_board edges events) m.image.bytes (joint_start_of held) m.steps ≡ Some w
  pub mcu : m.mcu ≡ w.cpu
  pub outside : m.outside ≡ outside_of w.board
  pub cycle : m.cycle ≡ w.cycle
  pub matrix : m.matrix ≡ turned_by (take made edges) all_up
  pub reached : made_first w.cycle (take made edges) ≡ take made edges

-- so it is of the run that begins with cleared memory
abbrev pub IsInRun : List Edge → List HostEvent → Machine → ℕ → World Beside → Type 0
IsInRun edges events m made w = IsInRunFrom reset_cpu edges events m made w

-- what is handed in: the edges that aren't made yet, as many as one likes, but all whose stamp is reached; and the
-- host's next two events, or all that are left
pub record IsDueOf (edges : List Edge) (events : List HostEvent) (made : ℕ) (w : World Beside) (due : Due)
    : Type 0 where
  pub next : due.edges.items ≡ take (length due.edges.items) (drop made edges)
  pub all : made_first w.cycle (drop (length due.edges.items) (drop made edges)) ≡ []
  pub host : due.host.items ≡ take 2 (drop w.board.pc.side.done events)

-- the next state of the run, and what the step adds to its log and its counts
pub record GoesOn (held : Cpu) (edges : List Edge) (events : List HostEvent) (made : ℕ) (w : World Beside)
    (seen : Seen) (new : Machine) : Type 0 where
  pub next : World Beside
  pub in_run : IsInRunFrom held edges events new (made + seen.edges) next
  pub log : next.board.pc.side.log ≡ w.board.pc.side.log ++ seen.items.items
  pub done : next.board.pc.side.done ≡ w.board.pc.side.done + seen.host

-- what a call of `step` comes to in the run: its next state, or the run has none
abbrev pub IsNext : Cpu → List Edge → List HostEvent → Machine → ℕ → World Beside → Result Seen Stuck → Machine
    → Type 0
IsNext held edges events old made w (Ok seen) new = GoesOn held edges events made w seen new
IsNext held edges events old made w (Err stuck) new =
    run_at (joint_board edges events) old.image.bytes (joint_start_of held) (suc old.steps) ≡ None

-- one call of `step` is one step of the joint run, whatever the part held, under every history in order whose events
-- are handed in so
abbrev pub IsStepOfRun : Due → Machine → Result Seen Stuck → Machine → Type 0
IsStepOfRun due old result new =
    (held : Cpu) (edges : List Edge) (events : List HostEvent) (made : ℕ) (w : World Beside) → AreInOrder edges
    → IsInRunFrom held edges events old made w → IsDueOf edges events made w due
    → IsNext held edges events old made w result new

-- power-on is the run's first state, under every history
abbrev pub IsFirstOfRunFrom : Cpu → Machine → Type 0
IsFirstOfRunFrom held m =
    (edges : List Edge) (events : List HostEvent) → IsInRunFrom held edges events m 0 (joint_start_of held)

abbrev pub IsFirstOfRun : Machine → Type 0
IsFirstOfRun m = IsFirstOfRunFrom reset_cpu m
