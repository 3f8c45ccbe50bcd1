-- A tick of the keyboard in two parts: what the link brings, and then the keys.
use Rattle.model_keyboard.specs.Tick.{met, is_inhibited}
use Rattle.model_keyboard.specs.Codes.{Keys}
use Rattle.law_fw_keys.proofs.Scan.{keyed}
use Rattle.std.proofs.Common.{◌≡◌, ◌≤◌, ℕ, Bool, not, ◌==◌, arith}
use Rattle.std.proofs.lemmas.Bool.Decides.{nat_tests}
use Rattle.mcs48_core.specs.Cpu.{Cpu}
use Rattle.law_fw_logic.proofs.Block.{put}
use Rattle.law_fw_logic.proofs.Looks.{readied}
use Rattle.model_keyboard.specs.Keyboard.{Keyboard}
use Rattle.model_keyboard.specs.Layers.{Layers}
use Rattle.model_keyboard.specs.Tick.{tested_if}
use Rattle.model_keyboard.specs.declared.meeting.Meeting.{Meeting}
use Rattle.fw_kernel.specs.declared.cells.TheConstants.{R3, HELD}

-- a look without an effect, to the place after it
abbrev pub passed : ℕ → Cpu → Bool → Cpu → Cpu
passed place m b e = record m { pc = place; t = e.t; pre = e.pre; tf = e.tf; rq = e.rq; last_t1 = e.last_t1 }

-- a whole tick, but for the held keys
abbrev pub keyed_tick : Keys → Meeting → (ℕ → ℕ) → (ℕ → ℕ) → Layers → Keyboard → Keyboard
keyed_tick keys meeting changed down l k =
    keyed keys (is_inhibited meeting) changed down l (tested_if (not (k.test == 0)) (met meeting keys k))

-- the registers that are set for a look are none of the cells
pub below_cells : (f : ℕ → ℕ) (i : ℕ) → HELD ≤ i → readied f i ≡ f i
below_cells f i l = grind (arith, nat_tests, l)

-- the registers that are set for a look, and the count of bits with them, are none of the cells
pub counted_cells : (f : ℕ → ℕ) (n i : ℕ) → HELD ≤ i → put (readied f) R3 n i ≡ f i
counted_cells f n i l = grind (arith, nat_tests, l)
