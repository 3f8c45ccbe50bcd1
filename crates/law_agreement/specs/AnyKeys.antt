-- The run whatever the keys and the PC do: it never stops.
use Rattle.std.specs.Prelude.{◌≡◌, ◌≤◌, ℕ, suc, ◌+◌, ◌*◌, Bool, true, false, List, length, Some}
use Rattle.board_terms.specs.declared.event.Edge.{Edge}
use Rattle.board_terms.specs.declared.event.HostEvent.{HostEvent}
use Rattle.fw_compile.specs.Image.{image_of}
use Rattle.fw_kernel.specs.declared.labels.TheConstants.{TICK}
use Rattle.law_fw_keys.specs.Frameless.{edges_now}
use Rattle.law_fw_keys.specs.State.{debounces}
use Rattle.joint_run.specs.Joint.{Beside, joint_board}
use Rattle.joint_run.specs.Run.{World, run_at}
use Rattle.joint_run.specs.Starts.{IsStart}
use Rattle.layout_reader.specs.Layouts.{KeyLayout, IsKeyLayout}
use Rattle.mcs48_core.specs.Cpu.{Cpu}
use Rattle.mcs48_ranges.specs.Sizes.{IsFine}
use Rattle.law_agreement.specs.Agreement.{switched_on}

-- from one tick start to the next there are at most so many cycles, 20 milliseconds, or with a debounce 20.8: all 96
-- places may change while a byte is received
abbrev pub longest_by : Bool → ℕ
longest_by false = 8000
longest_by true = 8314

abbrev pub longest_tick : List ℕ → ℕ
longest_tick bytes = longest_by (debounces bytes)

-- and at least so many, 5.04 milliseconds, however late the first of them is
abbrev pub shortest_tick : ℕ
shortest_tick = 2016

-- and if so many keys changed, at most these
abbrev pub tick_by : Bool → ℕ → ℕ
tick_by false keys = 2054 + 62 * keys
tick_by true keys = 2368 + 62 * keys

abbrev pub tick_with : List ℕ → ℕ → ℕ
tick_with bytes keys = tick_by (debounces bytes) keys

-- the run from a state is never stuck; each number has its tick start, the first at stamp 0 or 1; and the next start comes
-- within these bounds. A key changed if the tick's columns show it otherwise than data memory holds it at the tick's start,
-- and with a debounce the last reading did, too
pub record NeverStops (from : World Beside) (bytes : List ℕ) (edges : List Edge) (events : List HostEvent) : Type 0 where
  pub goes_on : (k : ℕ) → (w : World Beside) × (run_at (joint_board edges events) bytes from k ≡ Some w)
  pub starts : (n : ℕ) → (stamp : ℕ) × IsStart (joint_board edges events) TICK bytes from n stamp
  pub first : (stamp : ℕ) → IsStart (joint_board edges events) TICK bytes from 0 stamp → stamp ≤ 1
  pub soon : (n stamp next : ℕ) → IsStart (joint_board edges events) TICK bytes from n stamp
      → IsStart (joint_board edges events) TICK bytes from (suc n) next → next ≤ stamp + longest_tick bytes
  pub apart : (n stamp next : ℕ) → IsStart (joint_board edges events) TICK bytes from n stamp
      → IsStart (joint_board edges events) TICK bytes from (suc n) next → stamp + shortest_tick ≤ next
  pub by_keys : (n stamp next : ℕ) (s : IsStart (joint_board edges events) TICK bytes from n stamp)
      → IsStart (joint_board edges events) TICK bytes from (suc n) next
      → next ≤ stamp + tick_with bytes (length (edges_now bytes (joint_board edges events) s.state))

-- so is the run of a part that held anything when it was switched on, for every layout, under all edges and events: any
-- number at once, in any order, at any places, however often and fast
abbrev pub AnyKeysLaw : Type 0
AnyKeysLaw =
    (layout : KeyLayout) (edges : List Edge) (events : List HostEvent) → IsKeyLayout layout → (m : Cpu) → IsFine m
    → NeverStops (switched_on edges events m) (image_of layout) edges events
