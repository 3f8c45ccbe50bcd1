-- A reset, whatever data memory holds.
use Rattle.std.specs.Prelude.{◌≡◌, ◌≤◌, ◌<◌, ℕ, ◌+◌, Bool, true, false, List, All, drop, slice_index, slice_index_or}
use Rattle.std.specs.Prelude.{bit_and, bit_xor}
use Rattle.bits.specs.Bits.{bit}
use Rattle.fw_kernel.specs.declared.cells.TheConstants.{HELD, REPLYDUE, HEAD, STARTED, CHANGED}
use Rattle.fw_kernel.specs.declared.labels.TheConstants.{TICK, DROP, SCAN}
use Rattle.fw_kernel.specs.Places.{HasKernel}
use Rattle.fw_kernel.specs.Tables.{fn_place_at}
use Rattle.law_fw_logic.specs.Blocks.{IsAt}
use Rattle.law_fw_logic.specs.Boards.{numbered}
use Rattle.joint_run.specs.Run.{World}
use Rattle.joint_run.specs.Starts.{Comes}
use Rattle.model_keyboard.specs.Queue.{KeyQueue}
use Rattle.model_keyboard.specs.Tick.{reset}
use Rattle.mcs48_core.specs.Cpu.{Cpu}
use Rattle.mcs48_core.specs.declared.levels.Pins.{Pins}
use Rattle.mcs48_ranges.specs.Sizes.{IsByte, IsFine}
use Rattle.law_fw_keys.specs.Edges.{image_keys}
use Rattle.law_fw_keys.specs.Frameless.{cells_in, layers_by, shown_by}
use Rattle.law_fw_keys.specs.State.{Inv, held_by, queue_by}

-- the queue that a reset leaves: none, or the code of a started break, by bit 0 of STARTED alone
abbrev pub started_queue : (ℕ → ℕ) → List ℕ → KeyQueue
started_queue f ring = queue_by (bit_and (f STARTED) 1) (f HEAD) (bit_and (f STARTED) 1) ring

-- the keys that were held before this tick's edges: what the columns showed, by HELD, but for what has changed, by the
-- cells 30 to 3B (hexadecimal)
abbrev pub held_before : (ℕ → ℕ) → List Bool
held_before f = held_by (λ c. bit_xor (f (HELD + c)) (f (CHANGED + c)))

-- the reset: memory shows a keyboard of the model, in which all is as a reset makes it; the Fn key is down if its place
-- was held; the layers of the last presses stay
pub record Resets (bytes : List ℕ) (m n : Cpu) : Type 0 where
  pub to : IsAt SCAN n
  pub inv : Inv (cells_in n.ram)
  pub keyboard : shown_by n.ram
      ≡ record (reset (image_keys bytes) (shown_by m.ram)) { queue = started_queue (cells_in m.ram) (drop 112 m.ram) }
  pub fn : (layers_by n.ram).fn_down
      ≡ slice_index_or (held_before (cells_in m.ram)) (slice_index bytes fn_place_at) false
  pub pressed : (layers_by n.ram).pressed_in ≡ (layers_by m.ram).pressed_in

-- a program that makes one in at most 98 cycles if the reply to a reset was sent, whatever the cells hold and the pins show
abbrev pub ResetsAny : List ℕ → Type 0
ResetsAny bytes = (pins : ℕ → ℕ → ℕ → ℕ → Pins) (tick : ℕ → ℕ → ℕ → ℕ)
    → ((p1 p2 c s : ℕ) → (pins p1 p2 c s).bus < 256)
    → (w : World ℕ) → IsAt DROP w.cpu → IsFine w.cpu → bit 1 (slice_index w.cpu.ram REPLYDUE) ≡ true
    → Comes (numbered pins tick) TICK bytes w (λ e. Resets bytes w.cpu e.cpu × (e.cycle ≤ w.cycle + 98))

-- every image that has the kernel's bytes outside the layout's tables is one
abbrev pub ResetLaw : Type 0
ResetLaw = (bytes : List ℕ) → HasKernel bytes → All IsByte bytes → ResetsAny bytes
