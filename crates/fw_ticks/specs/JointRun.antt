-- The joint run of an image that has the kernel, under any lists of edges and events.
use Rattle.std.specs.Prelude.{◌≡◌, ◌≤◌, ℕ, Bool, true, List, Some}
use Rattle.board_terms.specs.Cadence.{IsNear}
use Rattle.board_terms.specs.declared.event.Edge.{Edge}
use Rattle.board_terms.specs.declared.event.HostEvent.{HostEvent}
use Rattle.mcs48_core.specs.Step.{stepped, executed, row_at}
use Rattle.fw_kernel.specs.declared.bytes.TheConstants.{KERNEL}
use Rattle.fw_kernel.specs.declared.labels.TheConstants.{TICK}
use Rattle.fw_kernel.specs.Places.{HasKernel}
use Rattle.joint_run.specs.declared.machine.Machine.{Machine}
use Rattle.joint_run.specs.Run.{World, seen, run_at}
use Rattle.joint_run.specs.Starts.{at_tick, IsStart, IsEnd}
use Rattle.joint_run.specs.Joint.{Beside, joint_board, joint_start}

-- what is answered of a machine is whether its state is a tick start, under every history and whatever is beside
abbrev pub DecidesTick : Machine → Bool → Type 0
DecidesTick m answer = (edges : List Edge) (events : List HostEvent) (w : World Beside) → w.cpu ≡ m.mcu
    → answer ≡ at_tick (joint_board edges events) TICK w

-- at a tick start the next step executes the instruction that the kernel has at TICK
abbrev pub ExecutesTick : Machine → Bool → Type 0
ExecutesTick m answer =
    (bytes : List ℕ) → HasKernel bytes → (edges : List Edge) (events : List HostEvent) (w : World Beside)
    → w.cpu ≡ m.mcu → answer ≡ true
    → stepped bytes (seen (joint_board edges events) w) w.cpu
    ≡ executed (row_at KERNEL TICK) bytes (seen (joint_board edges events) w) w.cpu

-- a joint run is never stuck; no tick starts before cycle 4,096; each number has its start, which keeps the cadence,
-- and an interrupt is in service there, with register bank 1; and the run ends at one of them, whatever its end stamp
-- is
pub record KeepsTimeFrom (from : World Beside) (bytes : List ℕ) (edges : List Edge) (events : List HostEvent)
    : Type 0 where
  pub goes_on : (k : ℕ) → (w : World Beside) × (run_at (joint_board edges events) bytes from k ≡ Some w)
  pub none_early : (k : ℕ) (w : World Beside) → run_at (joint_board edges events) bytes from k ≡ Some w
      → at_tick (joint_board edges events) TICK w ≡ true → 4096 ≤ w.cycle
  pub starts : (n : ℕ) → (stamp : ℕ) × IsStart (joint_board edges events) TICK bytes from n stamp
  pub near : (n stamp : ℕ) → IsStart (joint_board edges events) TICK bytes from n stamp → IsNear n stamp
  pub serves : (n stamp : ℕ) (s : IsStart (joint_board edges events) TICK bytes from n stamp)
      → (s.state.cpu.svc ≡ true) × (s.state.cpu.rb ≡ true)
  pub ends : (stop : ℕ) → (n : ℕ) × IsEnd (joint_board edges events) TICK bytes from stop n

-- so does the run that begins with cleared memory
abbrev pub KeepsTime : List ℕ → List Edge → List HostEvent → Type 0
KeepsTime bytes edges events = KeepsTimeFrom joint_start bytes edges events
