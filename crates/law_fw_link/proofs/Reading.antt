-- What a received frame reads on any board, in the words of the joint run.
use Rattle.std.proofs.Common.{◌≡◌, ◌<◌, ℕ, ◌+◌, true, false, List, drop, slice_index, ap, ◌∙◌, arith}
use Rattle.fw_kernel.specs.declared.cells.TheConstants.{R0, R3, R4, R5}
use Rattle.fw_kernel.specs.Places.{HasKernel}
use Rattle.fw_kernel.specs.declared.labels.TheConstants.{TICK, GOT, COMMAND, SCAN}
use Rattle.law_fw_logic.proofs.Block.{put}
use Rattle.law_fw_logic.proofs.BlockLaws.{cells_of, from_world, at_end}
use Rattle.law_fw_logic.proofs.Cells.{cell}
use Rattle.law_fw_logic.proofs.Memory.{memory_is}
use Rattle.law_fw_logic.specs.Blocks.{IsAt}
use Rattle.law_fw_logic.specs.Boards.{numbered}
use Rattle.law_fw_link.specs.Latch.{received_latch}
use Rattle.law_fw_link.specs.Reading.{Reads, ReadsLaw, Drops, DropsLaw, data_again}
use Rattle.law_fw_link.proofs.Latches.{driven}
use Rattle.law_fw_link.proofs.Receive.{drops}
use Rattle.law_fw_link.proofs.Received.{got, received_frame}
use Rattle.law_fw_link.proofs.Wired.{IsReleased}
use Rattle.joint_run.specs.Run.{Board, World, after_cycles}
use Rattle.joint_run.specs.Starts.{Comes}
use Rattle.mcs48_core.specs.Cpu.{Cpu}

-- on any board the kernel reads a byte off the data wire at its looks, once the wire is found low again
pub reads : (d : Board) (bytes : List ℕ) → HasKernel bytes → (w : World d.State) → IsAt GOT w.cpu → w.cpu.a < 256
    → IsReleased w.cpu.p2 → data_again d w ≡ false → Comes d TICK bytes w (Reads d w)
reads d bytes has w at acc released still =
    let m : Cpu = w.cpu in
    let f : ℕ → ℕ = cells_of m.ram in
    let ring : List ℕ = drop 112 m.ram in
    let g : ℕ → ℕ = got d bytes has w.cycle m w.board f ring released acc in
    from_world d bytes has w GOT at f (memory_is m.ram at.memory) m COMMAND 366 g
    (driven d w.cycle (received_latch m.p2) 366 0 w.board) (Reads d w)
    (received_frame d bytes has w.cycle m w.board f ring released acc at.free still)
    (λ e cpu free cycle board. record {
      to = at_end d bytes has w e m COMMAND g at.memory cpu free;
      cycle = cycle;
      r4 = ap (λ (c : Cpu). slice_index c.ram R4) cpu ∙ cell g ring R4 (omega arith);
      r5 = ap (λ (c : Cpu). slice_index c.ram R5) cpu ∙ cell g ring R5 (omega arith);
      p2 = ap (λ (c : Cpu). c.p2) cpu;
    })

-- for any levels at the pins the kernel reads a byte off the data wire at its looks
pub reads_law : ReadsLaw
reads_law bytes has pins tick w at acc small clock data_wire still =
    reads (numbered pins tick) bytes has w at acc (record { byte = small; clock = clock; data_wire = data_wire }) still

-- and what it does where there was no request
dropped : (d : Board) (bytes : List ℕ) → HasKernel bytes → (w : World d.State) → IsAt GOT w.cpu → data_again d w ≡ true
    → Comes d TICK bytes w (Drops d w)
dropped d bytes has w at high =
    let m : Cpu = w.cpu in
    let f : ℕ → ℕ = cells_of m.ram in
    let ring : List ℕ = drop 112 m.ram in
    let g : ℕ → ℕ = put (put f R3 8) R0 0 in
    from_world d bytes has w GOT at f (memory_is m.ram at.memory) m SCAN 30 g
    (after_cycles 30 0 (λ o. d.cycle m.p2 (w.cycle + o)) w.board) (Drops d w)
    (drops d bytes has w.cycle m w.board f ring at.free high)
    (λ e cpu free cycle board. record {
      to = at_end d bytes has w e m SCAN g at.memory cpu free;
      cycle = cycle;
      p2 = ap (λ (c : Cpu). c.p2) cpu;
      board = board;
    })

-- if the data wire is found high at the second look, the kernel reads no byte
pub drops_law : DropsLaw
drops_law bytes has pins tick w at high = dropped (numbered pins tick) bytes has w at high
