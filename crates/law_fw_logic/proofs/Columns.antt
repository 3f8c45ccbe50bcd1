-- The tick's head and the reading of the columns.
use Rattle.std.proofs.Common.{◌≡◌, ℕ, ◌+◌, ◌-◌, ◌*◌, List, [], ◌∷◌, true, ◌&&◌, nat_le, nat_lt, bit_xor}
use Rattle.std.proofs.Common.{refl, ap, if◌then◌else◌}
use Rattle.mcs48_core.specs.Cpu.{Cpu}
use Rattle.fw_kernel.specs.declared.cells.TheConstants.{R0, R1, R3, HELD, CHANGED}
use Rattle.fw_kernel.specs.declared.labels.TheConstants.{READ, OFFER, TICK}
use Rattle.fw_kernel.specs.Places.{HasKernel}
use Rattle.joint_run.specs.Run.{Board, after_cycles}
use Rattle.law_fw_logic.specs.Scan.{downs}
use Rattle.law_fw_logic.proofs.TimerParts.{IsFree}
use Rattle.law_fw_logic.proofs.Path.{Until}
use Rattle.law_fw_logic.proofs.Leads.{Leads}
use Rattle.law_fw_logic.proofs.Kernel.{kernel_in}
use Rattle.law_fw_logic.proofs.Block.{put, begin_at, At}
use Rattle.law_fw_logic.proofs.Blocks.{straight, absolute}
use Rattle.law_fw_logic.proofs.Short.{has_rows}

-- cells with R0, R1 and R3 as the reading of columns wants them
abbrev pub ready : (ℕ → ℕ) → ℕ → ℕ
ready f = put (put (put f R0 HELD) R1 CHANGED) R3 12

-- cells after the reading: HELD is what the columns show, CHANGED what differs from before
abbrev pub scanned : (ℕ → ℕ) → (ℕ → ℕ) → ℕ → ℕ
scanned shows f i =
    if nat_le HELD i && nat_lt i (HELD + 12) then shows (i - HELD) else
    if nat_le CHANGED i && nat_lt i (CHANGED + 12) then bit_xor (f (i - 16)) (shows (i - CHANGED)) else
    put (put (put f R0 (HELD + 12)) R1 (CHANGED + 12)) R3 0 i

-- what the columns show, by offsets from a cycle
abbrev pub shows : (d : Board) → ℕ → ℕ → d.State → ℕ → ℕ
shows d y p2 board c = 255 - (d.pins (32 + c) p2 (y + 16 * c) (after_cycles (16 * c) 0 (λ o. d.cycle p2 (y + o)) board)).bus

-- what the columns show by offsets from a cycle is what the definition of their reading says
pub shows_is : (d : Board) (y p2 : ℕ) (board : d.State) (c : ℕ) → shows d y p2 board c ≡ downs d y p2 board c
shows_is d y p2 board c = ap (λ b. 255 - (d.pins (32 + c) p2 (y + 16 * c) b).bus)
    (absolute (16 * c) y (d.cycle p2) board)

module _ (d : Board) (bytes : List ℕ) (has : HasKernel bytes) where
  -- the head after the timer's write: thirteen cycles
  pub head : (y : ℕ) (k : Cpu) (f : ℕ → ℕ) (ring : List ℕ) (board : d.State) → IsFree k
      → Leads d (kernel_in true bytes) y (begin_at d (TICK + 3) f ring k board)
      (At d (record k { p1 = 32 }) READ (ready f) ring 13 (after_cycles 13 y (d.cycle k.p2) board))
  head y k f ring board free =
      straight d (kernel_in true bytes) (has_rows true bytes has) (Until READ ∷ []) y k (TICK + 3) READ 13 f (ready f) ring
      (record k { p1 = 32 }) board (after_cycles 13 y (d.cycle k.p2) board) free (refl, refl, absolute 13 y (d.cycle k.p2) board)

  -- the columns: 192 cycles, one column read in each 16
  pub columns : (y : ℕ) (k : Cpu) (f : ℕ → ℕ) (ring : List ℕ) (board : d.State) → IsFree k
      → Leads d (kernel_in true bytes) y (begin_at d READ (ready f) ring (record k { p1 = 32 }) board)
      (At d (record k { p1 = 44 }) OFFER (scanned (shows d y k.p2 board) f) ring 192 (after_cycles 192 y (d.cycle k.p2) board))
  columns y k f ring board free =
      straight d (kernel_in true bytes) (has_rows true bytes has) (Until OFFER ∷ []) y (record k { p1 = 32 }) READ OFFER
      192 (ready f)
      (scanned (shows d y k.p2 board) f) ring (record k { p1 = 44 }) board (after_cycles 192 y (d.cycle k.p2) board) free
      (refl, refl, absolute 192 y (d.cycle k.p2) board)
