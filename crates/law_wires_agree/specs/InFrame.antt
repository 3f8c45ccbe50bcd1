-- Each cycle of a frame, at the wires and in byte time.
use Rattle.std.specs.Prelude.{◌≡◌, ℕ, ◌+◌, ◌*◌, ◌≤◌, ◌<◌, ◌==◌, ◌&&◌, Bool, true, false, List, Some, if◌then◌else◌}
use Rattle.std.proofs.Common.{zero, suc}
use Rattle.board_terms.specs.declared.event.HostEvent.{HostEvent}
use Rattle.board_terms.specs.declared.lines.Lines.{Lines}
use Rattle.board_terms.specs.Frame.{byte_of}
use Rattle.model_controller.specs.ByteTime.{quietly, byte_cycle, carried, Event, Quiet, Begins, Closes}
use Rattle.model_controller.specs.declared.UnderWay.{UnderWay}
use Rattle.model_controller.specs.declared.meeting.Meeting.TheVariants.{Got, Sent}
use Rattle.ctl_link.specs.declared.link.Link.TheVariants.{Free, Request}
use Rattle.ctl_wire.specs.Wire.{drive}
use Rattle.host_turn.specs.Run.{Side}
use Rattle.ctl_wire.specs.Wires.{Pc}
use Rattle.law_wires_agree.specs.Cells.{IsFrame, IsDown, bits_to}
use Rattle.law_wires_agree.specs.Cycles.{board_cycles}
use Rattle.law_wires_agree.specs.Flips.{IsFlip}
use Rattle.law_wires_agree.specs.Without.{seen_in_bytes}

-- what comes over the link at edge k of the keyboard's frame, and of one for it: it begins at the first edge, and the
-- keyboard's can't be broken off from the tenth on
abbrev pub at_edge : Bool → ℕ → Event
at_edge from zero = Begins from
at_edge from (suc k) = if from && (k == 8) then Closes else Quiet

-- byte time in a frame, up to cycle n of cell k
abbrev pub up_to : List HostEvent → Bool → ℕ → ℕ → ℕ → Side UnderWay → Side UnderWay
up_to events from zero n now m = quietly events n (suc now) (byte_cycle events now (Begins from) m)
up_to events from (suc k) n now m =
    quietly events n (suc (32 * suc k + now))
    (byte_cycle events (32 * suc k + now) (at_edge from (suc k)) (up_to events from k 31 now m))

-- whether the controller leaves the clock alone at the look in cell k
abbrev pub lets_look : List HostEvent → (ℕ → Lines) → ℕ → Pc → ℕ → Bool
lets_look events latch now b k = (drive (board_cycles events latch (32 * k + 18) now b).side.port.link).clk

-- in each cycle of the keyboard's frame, up to the end of the cell at whose look the controller pulls the clock, byte
-- time is what the wires are with their bits left out
abbrev pub SentInBytes : Type 0
SentInBytes =
    (events : List HostEvent) (latch : ℕ → Lines) (now : ℕ) (bits : ℕ → Bool) (b : Pc)
    → IsFrame latch now bits → b.side.port.link ≡ Free → b.clock ≡ true → (k n : ℕ) → k < 10 → n ≤ 31
    → ((i : ℕ) → i < k → lets_look events latch now b i ≡ true)
    → seen_in_bytes (board_cycles events latch (32 * k + suc n) now b).side
    ≡ up_to events true k n now (seen_in_bytes b.side)

-- in each cycle of a frame for the keyboard, too, byte time is what the wires are with their bits left out
abbrev pub GotInBytes : Type 0
GotInBytes =
    (events : List HostEvent) (latch : ℕ → Lines) (now byte : ℕ) (bits : ℕ → Bool) (b : Pc)
    → IsFrame latch now bits → b.side.port.link ≡ Request byte → b.clock ≡ true → (k n : ℕ) → k < 10 → n ≤ 31
    → seen_in_bytes (board_cycles events latch (32 * k + suc n) now b).side
    ≡ up_to events false k n now (seen_in_bytes b.side)

-- from the eleventh edge on, as long as the clock stays low after it
abbrev pub SentEndsInBytes : Type 0
SentEndsInBytes =
    (events : List HostEvent) (latch : ℕ → Lines) (now byte n : ℕ) (bits : ℕ → Bool) (b : Pc)
    → IsFrame latch now bits → byte_of (bits_to bits 11) ≡ Some byte → b.side.port.link ≡ Free → b.clock ≡ true
    → IsFlip b.side.port.flip → ((i : ℕ) → i < 10 → lets_look events latch now b i ≡ true)
    → IsDown latch (321 + now) (321 + now + n)
    → seen_in_bytes (board_cycles events latch (321 + n) now b).side
    ≡ quietly events n (321 + now) (carried events (Sent byte) now (seen_in_bytes b.side))

abbrev pub GotEndsInBytes : Type 0
GotEndsInBytes =
    (events : List HostEvent) (latch : ℕ → Lines) (now byte n : ℕ) (bits : ℕ → Bool) (b : Pc)
    → IsFrame latch now bits → b.side.port.link ≡ Request byte → b.clock ≡ true
    → IsDown latch (321 + now) (321 + now + n)
    → seen_in_bytes (board_cycles events latch (321 + n) now b).side
    ≡ quietly events n (321 + now) (carried events (Got byte) now (seen_in_bytes b.side))
