-- What the controller requests the keyboard to take is a byte, if the PC writes bytes.
use Rattle.std.proofs.Common.{◌<◌, ℕ, zero, suc, ◌+◌, ◌&&◌, ◌++◌, ◌∷◌, [], Bool, true, false, not, ◌==◌, List, length}
use Rattle.std.proofs.Common.{if◌then◌else◌, arith}
use Rattle.std.specs.Prelude.{is_some}
use Rattle.law_agreement.proofs.PortInBytes.{broken_in, received_in, settled_in}
use Rattle.law_agreement.specs.Bytes.{AsksByte, HoldsByte, IsPortInBytes}
use Rattle.board_terms.specs.Frame.{byte_of}
use Rattle.board_terms.specs.declared.lines.Lines.{Lines}
use Rattle.ctl_core.specs.Controller.{ControllerState, written}
use Rattle.ctl_core.specs.declared.port.Port.{Port as HostPort}
use Rattle.ctl_link.specs.Link.{broken_off, handed_over, may_break, received}
use Rattle.ctl_link.specs.declared.link.Link.{Link}
use Rattle.ctl_link.specs.declared.link.Link.TheVariants.{Free, Hold, Ask, Request, Busy}
use Rattle.ctl_link.specs.declared.port.LinkEnd.{LinkEnd}
use Rattle.ctl_wire.specs.Cycles.{WireState, looked, port_looked}
use Rattle.ctl_wire.specs.Pulls.{Call, Flips, Happening, Reads, Writes, acts, called, wire_cycle}
use Rattle.ctl_wire.specs.Wire.{edge_at, edge_in, is_breakable, turned}
use Rattle.ctl_wire.specs.declared.wire.Wire.{Wire}
use Rattle.ctl_wire.specs.declared.wire.Wire.TheVariants.{Recv, Send}
use Rattle.law_ctl_obeys.specs.Controller.{AreBytes, WriteBytes, WritesByte, asked_by, state_at}

-- the byte that a request has
asked_small : (l : Link Wire) → AsksByte l → asked_by l < 256
asked_small Free a = omega arith
asked_small (Hold since) a = omega arith
asked_small (Ask byte since) a = omega arith
asked_small (Request byte) a = a
asked_small (Busy wire) a = omega arith

-- the calls: a byte that finds the input buffer full is refused
write_in : (full : Bool) (port : HostPort) (byte : ℕ) (s : ControllerState) → byte < 256 → HoldsByte s.input
    → HoldsByte (if full then s else written port byte s).input
write_in true port byte s small held = held
write_in false port byte s small held = small

call_in : (c : Call) (w : WireState) → WritesByte c → IsPortInBytes w.port → IsPortInBytes (called c w).port
call_in (Writes port byte) w small b = (write_in (is_some w.port.core.input) port byte w.port.core small b.0, b.1)
call_in Reads w t b = b
call_in (Flips bit) w t b = b

calls_in : (calls : List Call) (w : WireState) → AreBytes calls → IsPortInBytes w.port → IsPortInBytes (acts calls w).port
calls_in [] w t b = b
calls_in (c ∷ calls) w t b = calls_in calls (called c w) t.1 (call_in c w t.0 b)

-- a falling edge of the clock
unless : (b : Bool) (p q : LinkEnd Wire) → IsPortInBytes p → IsPortInBytes q → IsPortInBytes (if b then p else q)
unless true p q x y = x
unless false p q x y = y

edge_in_bytes : (now : ℕ) (dat : Bool) (x : Wire) (p : LinkEnd Wire) → IsPortInBytes p → IsPortInBytes (edge_in now dat x p)
edge_in_bytes now dat (Recv flip bits) p b =
    unless (length bits == 10) (received now (byte_of (turned flip (bits ++ dat ∷ []))) p)
    (record p { link = Busy (Recv flip (bits ++ dat ∷ [])) })
    (received_in now (byte_of (turned flip (bits ++ dat ∷ []))) p b) (b.0, tt)
edge_in_bytes now dat (Send byte edges) p b =
    unless (edges == 10) (handed_over p) (record p { link = Busy (Send byte (edges + 1)) }) (b.0, tt) (b.0, tt)

edge_at_bytes : (now : ℕ) (dat : Bool) (l : Link Wire) (p : LinkEnd Wire) → IsPortInBytes p → IsPortInBytes (edge_at now dat l p)
edge_at_bytes now dat Free p b = (b.0, tt)
edge_at_bytes now dat (Hold since) p b = b
edge_at_bytes now dat (Ask byte since) p b = b
edge_at_bytes now dat (Request byte) p b = (b.0, tt)
edge_at_bytes now dat (Busy wire) p b = edge_in_bytes now dat wire p b

look_in : (now : ℕ) (clock : Bool) (line : Lines) (p : LinkEnd Wire) → IsPortInBytes p
    → IsPortInBytes (port_looked now clock line p)
look_in now clock line p b =
    unless (clock && not line.clk) (edge_at now line.dat p.link p) p (edge_at_bytes now line.dat p.link p b) b

-- a cycle
cycle_in : (now : ℕ) (h : Happening) (w : WireState) → AreBytes h.before → AreBytes h.calls → IsPortInBytes w.port
    → IsPortInBytes (wire_cycle now h w).port
unfolding wire_cycle
cycle_in now h w before after b =
    let early : WireState = acts h.before w in
    let seen : WireState = looked now h.line early in
    let late : WireState = acts h.calls seen in
    let here = calls_in h.calls seen after (look_in now early.clock h.line early.port (calls_in h.before w before b)) in
    settled_in now (broken_off is_breakable now late.port)
    (broken_in (may_break is_breakable late.port.link && not late.port.awaits && is_some late.port.core.input) now late.port here)

module _ (happens : ℕ → Happening) (bytes : WriteBytes happens) where
  state_in : (c : ℕ) → IsPortInBytes (state_at happens c).port
  state_in zero = (tt, tt)
  state_in (suc c) = cycle_in c (happens c) (state_at happens c) (bytes c).0 (bytes c).1 (state_in c)

  -- in each cycle
  pub requests_bytes : (c : ℕ) → asked_by (state_at happens c).port.link < 256
  requests_bytes c = asked_small (state_at happens c).port.link (state_in c).1
