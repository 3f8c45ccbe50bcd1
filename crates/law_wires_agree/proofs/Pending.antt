-- The flip that is pending is one of the events'.
use Rattle.std.proofs.Common.{ℕ, suc, zero, ◌+◌, Bool, true, false, not, ◌&&◌, List, [], ◌∷◌, ◌++◌, length, Some, None}
use Rattle.std.specs.Prelude.{if◌then◌else◌, ◌==◌, is_some, slice_get}
use Rattle.std.specs.declared.option.Option.{Option}
use Rattle.std.proofs.lemmas.List.Elements.{All-head, All-tail}
use Rattle.board_terms.specs.Flips.{FlipsDataOrParity, AreFlips}
use Rattle.board_terms.specs.Frame.{byte_of}
use Rattle.board_terms.specs.declared.event.HostAct.{HostAct}
use Rattle.board_terms.specs.declared.event.HostAct.TheVariants.{Write60, Write64, Read60, Mask, Unmask, Take, Status, Flip}
use Rattle.board_terms.specs.declared.event.HostEvent.{HostEvent}
use Rattle.board_terms.specs.declared.lines.Lines.{Lines}
use Rattle.ctl_core.specs.Commands.{Taken, taken}
use Rattle.ctl_link.specs.declared.link.Link.{Link}
use Rattle.ctl_link.specs.declared.link.Link.TheVariants.{Free, Hold, Ask, Request, Busy}
use Rattle.ctl_link.specs.declared.port.LinkEnd.{LinkEnd}
use Rattle.ctl_link.specs.Link.{received, handed_over, held_since, took_where, may_break, broken_off, settled}
use Rattle.ctl_wire.specs.declared.wire.Wire.{Wire}
use Rattle.ctl_wire.specs.declared.wire.Wire.TheVariants.{Recv, Send}
use Rattle.ctl_wire.specs.Wire.{edge_at, turned, is_breakable}
use Rattle.host_turn.specs.Cycle.{port_by, host_of}
use Rattle.host_turn.specs.Host.{Host, turn, acted, acted_where, event_turn, interrupts, read_by_bios, in_silence, is_done}
use Rattle.host_turn.specs.Run.{Side, goes_on, desk_of}
use Rattle.host_turn.proofs.Turns.{turn_of}
use Rattle.ctl_wire.specs.Wires.{Pc, board_cycle, looked, wires}
use Rattle.law_wires_agree.specs.Flips.{IsFlip, FlipsStay}

-- either way
choice : (c : Bool) (x y : LinkEnd Wire) → IsFlip x.flip → IsFlip y.flip → IsFlip (if c then x else y).flip
choice true x y h g = h
choice false x y h g = g

-- a falling edge takes it, or leaves it
edge_flip : (now : ℕ) (dat : Bool) (l : Link Wire) (p : LinkEnd Wire) → IsFlip p.flip → IsFlip (edge_at now dat l p).flip
edge_flip now dat Free p h = tt
edge_flip now dat (Hold since) p h = h
edge_flip now dat (Ask byte since) p h = h
edge_flip now dat (Request byte) p h = h
edge_flip now dat (Busy (Recv flip bits)) p h =
    choice (length bits == 10) (received now (byte_of (turned flip (bits ++ dat ∷ []))) p)
    (record p { link = Busy (Recv flip (bits ++ dat ∷ [])) }) h h
edge_flip now dat (Busy (Send byte edges)) p h =
    choice (edges == 10) (handed_over p) (record p { link = Busy (Send byte (edges + 1)) }) h h

-- an event sets it, and nothing else does
acted_flip : (act : HostAct) (h : Host) → FlipsDataOrParity act → IsFlip h.flip → IsFlip (acted act h).host.flip
acted_flip (Write60 byte) h is f = f
acted_flip (Write64 byte) h is f = f
acted_flip Read60 h is f = f
acted_flip Mask h is f = f
acted_flip Unmask h is f = f
acted_flip Take h is f = f
acted_flip Status h is f = f
acted_flip (Flip bit) h is f = is

where_flip : (done : Bool) (act : HostAct) (h : Host) → FlipsDataOrParity act → IsFlip h.flip → IsFlip (acted_where done act h).host.flip
where_flip true act h is f = acted_flip act h is f
where_flip false act h is f = f

abbrev FlipsNext : Option HostEvent → Type 0
FlipsNext None = Unit {0}
FlipsNext (Some event) = FlipsDataOrParity event.act

flips_next : (events : List HostEvent) (k : ℕ) → AreFlips events → FlipsNext (slice_get events k)
flips_next [] k are = tt
flips_next (e ∷ es) zero are = All-head (λ event. FlipsDataOrParity event.act) e es are
flips_next (e ∷ es) (suc k) are = flips_next es k (All-tail (λ event. FlipsDataOrParity event.act) e es are)

event_flip : (now : ℕ) (next : Option HostEvent) (h : Host) → FlipsNext next → IsFlip h.flip → IsFlip (event_turn now next h).host.flip
event_flip now None h is f = f
event_flip now (Some event) h is f = where_flip (is_done now (Some event) h.core) event.act h is f

read_flip : (reads : Bool) (h : Host) → IsFlip h.flip → IsFlip (if reads then read_by_bios h else in_silence h).host.flip
read_flip true h f = f
read_flip false h f = f

turn_flip : (now filled : ℕ) (next : Option HostEvent) (h : Host) → FlipsNext next → IsFlip h.flip
    → IsFlip (turn now filled next h).host.flip
turn_flip now filled next h is f =
    read_flip (interrupts now filled (event_turn now next h).host) (event_turn now next h).host (event_flip now next h is f)

-- break and settling leave it
took_flip : (now : ℕ) (since : Option ℕ) (input : Option Taken) (p : LinkEnd Wire) → IsFlip p.flip
    → IsFlip (took_where now since input p).port.flip
took_flip now None input p f = f
took_flip now (Some since) None p f = f
took_flip now (Some since) (Some t) p f = f

broken_flip : (c : Bool) (now : ℕ) (p : LinkEnd Wire) → IsFlip p.flip → IsFlip (if c then record p { link = Hold now } else p).flip
broken_flip c now p f = choice c (record p { link = Hold now }) p f f

settled_flip : (now : ℕ) (p : LinkEnd Wire) → IsFlip p.flip → IsFlip (settled now (broken_off is_breakable now p)).port.flip
settled_flip now p f =
    let q : LinkEnd Wire = broken_off is_breakable now p in
    took_flip now (held_since now q.awaits q.link) (if q.core.output_full then None else taken q.core) q
    (broken_flip (may_break is_breakable p.link && not p.awaits && is_some p.core.input) now p f)

goes_flip : (events : List HostEvent) (now : ℕ) (s : Side Wire) → AreFlips events → IsFlip s.port.flip
    → IsFlip (goes_on is_breakable events now s).port.flip
unfolding goes_on
goes_flip events now s are f =
    settled_flip now (port_by (turn_of events now s) s.port)
    (turn_flip now s.port.filled (slice_get events s.done) (host_of (desk_of s)) (flips_next events s.done are) f)

cycle_flip : (events : List HostEvent) (now : ℕ) (latch : Lines) (b : Pc) → AreFlips events → IsFlip b.side.port.flip
    → IsFlip (board_cycle events now latch b).side.port.flip
unfolding board_cycle
cycle_flip events now latch b are f =
    let line : Lines = wires latch b in
    goes_flip events now (looked now line b).side are
    (choice (b.clock && not line.clk)
    (edge_at now line.dat b.side.port.link b.side.port) b.side.port (edge_flip now line.dat b.side.port.link b.side.port f) f)

-- a flip that is pending is of a data bit or the parity in every cycle, if those of the events are
pub flips_stay : FlipsStay
flips_stay events latch zero now b are f = f
flips_stay events latch (suc n) now b are f =
    flips_stay events latch n (suc now) (board_cycle events now (latch now) b) are (cycle_flip events now (latch now) b are f)
