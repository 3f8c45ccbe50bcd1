-- Worked examples, by computing.
use Rattle.std.proofs.Common.{◌≡◌, ℕ, ◌+◌, ◌-◌, ◌/◌, ◌%◌, List, [], ◌∷◌, ◌&&◌, true, refl}
use Rattle.std.specs.Prelude.{Bool, if◌then◌else◌, nat_le, nat_lt, slice_index_or, Some}
use Rattle.std.specs.declared.option.Option.{Option}
use Rattle.pc_tables.specs.declared.item.Item.TheVariants.{Read, Status}
use Rattle.board_terms.specs.declared.event.HostAct.TheVariants.{Write64, Read60, Mask, Flip, Status as AskStatus}
use Rattle.board_terms.specs.declared.event.HostEvent.{HostEvent}
use Rattle.ctl_core.specs.declared.port.Port.TheVariants.{P64}
use Rattle.ctl_link.specs.declared.link.Link.TheVariants.{Hold, Request}
use Rattle.host_turn.specs.Run.{Side, side_at_start, goes_on}
use Rattle.board_terms.specs.declared.lines.Lines.{Lines}
use Rattle.board_terms.specs.Frame.{frame_bits, byte_of}
use Rattle.ctl_wire.specs.Wires.{board_cycle, pc_at_start}
use Rattle.model_controller.specs.ByteTime.{byte_cycle, quietly, carried, meeting_in}
use Rattle.model_controller.specs.declared.UnderWay.{UnderWay}
use Rattle.ctl_core.specs.ScanCodes.{scan_codes, translated}
use Rattle.law_wires_agree.specs.Cycles.{board_cycles}

abbrev at : ℕ → Rattle.board_terms.specs.declared.event.HostAct.HostAct → HostEvent
at stamp act = record { stamp = stamp; act = act }

abbrev high : ℕ → Lines
high o = record { clk = true; dat = true }

-- a self test while the interrupt is masked, with the status before and after the read
asked : List HostEvent
asked = at 0 Mask ∷ at 0 (Write64 0xaa) ∷ at 10 AskStatus ∷ at 10 Read60 ∷ at 10 AskStatus ∷ []

self_test : (board_cycles asked high 20 4096 pc_at_start).side.log
    ≡ record { cycle = 4106; item = Status 0x1d } ∷ record { cycle = 4107; item = Read 0x55 }
    ∷ record { cycle = 4108; item = Status 0x1c } ∷ []
unfolding asked board_cycle goes_on
self_test = refl

-- the keyboard sends 1C from cycle 4096 + 288 on; the host reads its scan code
abbrev sends : ℕ → ℕ → Lines
sends from o =
    if nat_le from o && nat_lt o
    (from + 352) then record { clk = nat_le 16 ((o - from) % 32); dat = slice_index_or (frame_bits 0x1c) ((o - from) / 32) true }
    else record { clk = true; dat = true }

reads : List HostEvent
reads = at 0 Mask ∷ at 607 Read60 ∷ at 608 Read60 ∷ []

-- what was received is in the output buffer from offset 608 on, in both machines
on_wires : (board_cycles reads (sends 4384) 700 4096 pc_at_start).side.log
    ≡ record { cycle = 4703; item = Read 0 } ∷ record { cycle = 4704; item = Read 0x1e } ∷ []
unfolding reads board_cycle goes_on byte_of scan_codes translated
on_wires = refl

-- a tick of 609 and `rest` cycles, from its start on: offsets 0 to 255, 256 to 287, the meeting from 288 to 608, and
-- the rest
abbrev byte_tick : List HostEvent → Bool → Option ℕ → ℕ → ℕ → Side UnderWay → Side UnderWay
byte_tick events tested offer start rest m =
    let earlier : Side UnderWay = quietly events 256 start m in
    let later : Side UnderWay = quietly events 32 (256 + start) earlier in
    quietly events rest (609 + start) (carried events (meeting_in tested offer earlier later) (288 + start) later)

in_bytes : (byte_tick reads true (Some 0x1c) 4096 91 (side_at_start UnderWay)).log
    ≡ record { cycle = 4703; item = Read 0 } ∷ record { cycle = 4704; item = Read 0x1e } ∷ []
unfolding reads byte_cycle goes_on scan_codes translated
in_bytes = refl

-- the same with a data bit turned round: the byte is asked for again, 64 cycles later by a request
abbrev flipped : List HostEvent
flipped = at 0 Mask ∷ at 20 (Flip 3) ∷ at 608 Read60 ∷ at 609 AskStatus ∷ []

wrong_on_wires : (board_cycles flipped (sends 4384) 700 4096 pc_at_start).side.port.link ≡ Request 0xfe
unfolding board_cycle goes_on byte_of scan_codes translated
wrong_on_wires = refl

wrong_in_bytes : (byte_tick flipped true (Some 0x1c) 4096 91 (side_at_start UnderWay)).port.link ≡ Request 0xfe
unfolding byte_cycle goes_on scan_codes translated
wrong_in_bytes = refl

-- a write at offset 575 breaks the frame off; at 576 it waits
abbrev writes : ℕ → List HostEvent
writes offset = at offset (Write64 0xae) ∷ []

broken_off_at_575 : (board_cycles (writes 575) (sends 4384) 576 4096 pc_at_start).side.port.link ≡ Hold 4671
unfolding board_cycle goes_on
broken_off_at_575 = refl

waits_at_576 : (board_cycles (writes 576) (sends 4384) 608 4096 pc_at_start).side.port.core.input
    ≡ Some (record { port = P64; byte = 0xae })
unfolding board_cycle goes_on
waits_at_576 = refl

-- in byte time both are the same
cut_at_575 : (byte_tick (writes 575) true (Some 0x1c) 4096 0 (side_at_start UnderWay)).port.link ≡ Hold 4671
unfolding byte_cycle goes_on
cut_at_575 = refl

sent_at_576 : (byte_tick (writes 576) true (Some 0x1c) 4096 0 (side_at_start UnderWay)).port.link ≡ Hold 4704
unfolding byte_cycle goes_on scan_codes translated
sent_at_576 = refl
