-- What a received frame reads, whatever is beside the processor.
use Rattle.std.specs.Prelude.{◌≡◌, ◌<◌, ℕ, ◌+◌, ◌*◌, Bool, true, false, not, List, [], ◌∷◌, slice_index, if◌then◌else◌}
use Rattle.bits.specs.Bits.{bit}
use Rattle.board_terms.specs.Bits.{value}
use Rattle.board_terms.specs.Frame.{parity_of}
use Rattle.fw_kernel.specs.declared.cells.TheConstants.{R4, R5}
use Rattle.fw_kernel.specs.Places.{HasKernel}
use Rattle.fw_kernel.specs.declared.labels.TheConstants.{TICK, GOT, COMMAND, SCAN}
use Rattle.law_fw_logic.specs.Blocks.{IsAt}
use Rattle.law_fw_logic.specs.Boards.{numbered}
use Rattle.law_fw_link.specs.Latch.{received_latch}
use Rattle.joint_run.specs.Run.{Board, World, after_cycles}
use Rattle.joint_run.specs.Starts.{Comes}
use Rattle.mcs48_core.specs.Status.{digit}
use Rattle.mcs48_core.specs.declared.levels.Pins.{Pins}

-- the level of the data wire at the look of cell k, 18 cycles into the cell, if the latch is that of a received
-- frame
abbrev pub data_read : (d : Board) → World d.State → ℕ → Bool
data_read d w k =
    (d.pins w.cpu.p1 w.cpu.p2 (w.cycle + (28 + 32 * k + 18))
    (after_cycles (28 + 32 * k + 18) 0 (λ o. d.cycle (received_latch w.cpu.p2 o) (w.cycle + o)) w.board)).t1

-- the byte of the first eight levels read, lowest bit first
abbrev pub byte_in : (ℕ → Bool) → ℕ
byte_in level =
    value (level 0 ∷ level 1 ∷ level 2 ∷ level 3 ∷ level 4 ∷ level 5 ∷ level 6 ∷ level 7 ∷ [])

-- whether the ninth is its parity
abbrev pub right_in : (ℕ → Bool) → Bool
right_in level = if level 8 then parity_of (byte_in level) else not (parity_of (byte_in level))

-- R4 is the byte; R5 is 255 if its parity was right, and else 0; the latch is as it was
pub record Reads (d : Board) (w e : World d.State) : Type 0 where
  pub to : IsAt COMMAND e.cpu
  pub cycle : e.cycle ≡ w.cycle + 366
  pub r4 : slice_index e.cpu.ram R4 ≡ byte_in (data_read d w)
  pub r5 : slice_index e.cpu.ram R5 ≡ 255 * digit (right_in (data_read d w))
  pub p2 : e.cpu.p2 ≡ w.cpu.p2

-- the level of the data wire at the second look at it, two cycles before the first cell
abbrev pub data_again : (d : Board) → World d.State → Bool
data_again d w =
    (d.pins w.cpu.p1 w.cpu.p2 (w.cycle + 26) (after_cycles 26 0 (λ o. d.cycle w.cpu.p2 (w.cycle + o)) w.board)).t1

-- if it is high there is no frame: in 30 cycles the keys' turn comes, and no wire was pulled
pub record Drops (d : Board) (w e : World d.State) : Type 0 where
  pub to : IsAt SCAN e.cpu
  pub cycle : e.cycle ≡ w.cycle + 30
  pub p2 : e.cpu.p2 ≡ w.cpu.p2
  pub board : e.board ≡ after_cycles 30 0 (λ o. d.cycle w.cpu.p2 (w.cycle + o)) w.board

-- so it is for any levels at the pins, in every image that has the kernel's bytes outside the layout's tables
abbrev pub ReadsLaw : Type 0
ReadsLaw =
    (bytes : List ℕ) → HasKernel bytes
    → (pins : ℕ → ℕ → ℕ → ℕ → Pins) (tick : ℕ → ℕ → ℕ → ℕ) (w : World ℕ) → IsAt GOT w.cpu
    → w.cpu.a < 256 → w.cpu.p2 < 256 → bit 0 w.cpu.p2 ≡ true → bit 1 w.cpu.p2 ≡ true
    → data_again (numbered pins tick) w ≡ false
    → Comes (numbered pins tick) TICK bytes w (Reads (numbered pins tick) w)

abbrev pub DropsLaw : Type 0
DropsLaw =
    (bytes : List ℕ) → HasKernel bytes
    → (pins : ℕ → ℕ → ℕ → ℕ → Pins) (tick : ℕ → ℕ → ℕ → ℕ) (w : World ℕ) → IsAt GOT w.cpu
    → data_again (numbered pins tick) w ≡ true
    → Comes (numbered pins tick) TICK bytes w (Drops (numbered pins tick) w)
