-- Laws of spans of cycles: at the wires and in byte time the same goes on.
use Rattle.std.specs.Prelude.{◌≡◌, ℕ, ◌+◌, ◌*◌, ◌≤◌, ◌<◌, Bool, true, false, List, Some, slice_index_or}
use Rattle.std.proofs.Common.{suc}
use Rattle.board_terms.specs.declared.event.HostEvent.{HostEvent}
use Rattle.board_terms.specs.declared.lines.Lines.{Lines}
use Rattle.board_terms.specs.Frame.{frame_bits}
use Rattle.ctl_link.specs.Link.{is_busy}
use Rattle.ctl_link.specs.Pulls.{pulled}
use Rattle.ctl_link.specs.declared.link.Link.TheVariants.{Request}
use Rattle.ctl_wire.specs.declared.wire.Wire.{Wire}
use Rattle.ctl_wire.specs.Wire.{drive, is_breakable}
use Rattle.host_turn.specs.Run.{Side, goes_on}
use Rattle.ctl_wire.specs.Wires.{Pc, pc_at_start, board_cycle}
use Rattle.model_controller.specs.ByteTime.{quietly, is_open}
use Rattle.law_wires_agree.specs.Cells.{IsFrame}
use Rattle.law_wires_agree.specs.Cycles.{board_cycles}
use Rattle.law_wires_agree.specs.Without.{seen_in_bytes}

-- once it is known what came over the link, a cycle goes on alike on both sides
abbrev pub GoesOnAlike : Type 0
GoesOnAlike =
    (events : List HostEvent) (now : ℕ) (s : Side Wire)
    → goes_on is_open events now (seen_in_bytes s) ≡ seen_in_bytes (goes_on is_breakable events now s)

-- while the keyboard leaves the clock alone and no byte is under way, the cycles at the wires are those of byte time
abbrev pub BetweenFrames : Type 0
BetweenFrames =
    (events : List HostEvent) (latch : ℕ → Lines) (n now : ℕ) (b : Pc)
    → ((o : ℕ) → now ≤ o → o < now + n → (latch o).clk ≡ true) → is_busy b.side.port.link ≡ false
    → (seen_in_bytes (board_cycles events latch n now b).side ≡ quietly events n now (seen_in_bytes b.side))
    × (is_busy (board_cycles events latch n now b).side.port.link ≡ false)

-- while the controller pulls the clock, for less than 64 cycles, they are so whatever the keyboard does
abbrev pub WhilePulled : Type 0
WhilePulled =
    (events : List HostEvent) (latch : ℕ → Lines) (n now : ℕ) (b : Pc) (since : ℕ)
    → pulled b.side.port.link ≡ Some since → now + n ≤ since + 64
    → (seen_in_bytes (board_cycles events latch n now b).side ≡ quietly events n now (seen_in_bytes b.side))
    × (pulled (board_cycles events latch n now b).side.port.link ≡ Some since)

-- a pull of the clock that a cycle begins lasts 64 cycles at least: it is there after this one and after each of the 63
-- after it, whatever the keyboard drives and whatever the host does
abbrev pub PullsLast : Type 0
PullsLast =
    (events : List HostEvent) (latch : ℕ → Lines) (now n : ℕ) (b : Pc)
    → (drive b.side.port.link).clk ≡ true → (drive (board_cycle events now (latch now) b).side.port.link).clk ≡ false
    → n < 64
    → (drive (board_cycles events latch n (suc now) (board_cycle events now (latch now) b)).side.port.link).clk ≡ false

-- up to stamp 0, if the keyboard leaves the clock alone, nothing changes
abbrev pub StampZeroFirst : Type 0
StampZeroFirst =
    (events : List HostEvent) (latch : ℕ → Lines) (n now : ℕ) → now + n ≤ 4096
    → ((o : ℕ) → now ≤ o → o < now + n → (latch o).clk ≡ true)
    → board_cycles events latch n now pc_at_start ≡ pc_at_start

-- what the keyboard reads of the controller's frame, from cycle n of cell k on: the bit after the edge
abbrev pub FrameShown : Type 0
FrameShown =
    (events : List HostEvent) (latch : ℕ → Lines) (now byte : ℕ) (bits : ℕ → Bool) (b : Pc)
    → IsFrame latch now bits → b.side.port.link ≡ Request byte → b.clock ≡ true → (k n : ℕ) → k < 10 → n ≤ 31
    → (drive (board_cycles events latch (32 * k + suc n) now b).side.port.link).dat
    ≡ slice_index_or (frame_bits byte) (k + 1) true
