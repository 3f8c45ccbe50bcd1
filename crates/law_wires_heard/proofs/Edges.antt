-- A look at which the clock falls by the latch; the controller after the last edge of a frame, which pulls the clock where
-- it has taken a byte, and leaves it alone where it has sent one and awaits its reply.
use Rattle.std.proofs.Common.{◌≡◌, ℕ, List, Bool, true, false, not, ◌&&◌, ◌||◌, Some, None, refl, ap, sym, ◌∙◌, arith}
use Rattle.std.specs.Prelude.{if◌then◌else◌}
use Rattle.std.specs.declared.option.Option.{Option}
use Rattle.board_terms.specs.declared.event.HostEvent.{HostEvent}
use Rattle.board_terms.specs.declared.lines.Lines.{Lines}
use Rattle.ctl_core.specs.Commands.{Taken, taken}
use Rattle.ctl_core.specs.Controller.{ControllerState, asks_again, is_disabled}
use Rattle.ctl_link.proofs.Breaks.{unbroken}
use Rattle.ctl_link.specs.Link.{held_since, is_busy, link_after, next_link, received, settled, takes_input, took_where}
use Rattle.ctl_link.specs.Pulls.{pulled}
use Rattle.ctl_link.specs.declared.link.Link.{Link}
use Rattle.ctl_link.specs.declared.link.Link.TheVariants.{Free, Hold, Ask}
use Rattle.ctl_link.specs.declared.port.LinkEnd.{LinkEnd}
use Rattle.ctl_wire.specs.Wire.{drive, edge_at, is_breakable}
use Rattle.ctl_wire.specs.declared.wire.Wire.{Wire}
use Rattle.host_turn.proofs.Turns.{turn_of}
use Rattle.host_turn.specs.Cycle.{port_by}
use Rattle.host_turn.specs.Run.{Side, goes_on, says_lights}
use Rattle.joint_run.specs.Joint.{Beside, joint_cycle, latch_of, lights_of}
use Rattle.ctl_wire.specs.Wires.{Pc, board_cycle, looked, wires}
use Rattle.law_wires_agree.proofs.Pulls.{stays_pulled}
use Rattle.law_wires_agree.proofs.Spans.{and-true, board_by}

-- what the edge does to the port is before the rest of the cycle
pub edge_cycle : (events : List HostEvent) (now : ℕ) (latch : Lines) (b : Pc) (l : Link Wire) → b.side.port.link ≡ l → b.clock ≡ true
    → latch.clk ≡ false
    → (board_cycle events now latch b).side
    ≡ goes_on is_breakable events now (record b.side { port = edge_at now (latch.dat && (drive l).dat) l b.side.port })
edge_cycle events now latch b l link high low =
    let line : Lines = wires latch b in
    let down : line.clk ≡ false = ap (λ c. c && (drive b.side.port.link).clk) low in
    board_by events now latch b (record b.side { port = edge_at now (latch.dat && (drive l).dat) l b.side.port })
    (ap (λ c. record b.side { port = if c && not line.clk then edge_at now line.dat b.side.port.link b.side.port else b.side.port }) high
    ∙ ap (λ c. record b.side { port = if not c then edge_at now line.dat b.side.port.link b.side.port else b.side.port }) down
    ∙ ap (λ k. record b.side { port = edge_at now (latch.dat && (drive k).dat) k b.side.port }) link)

abbrev ask : ℕ → ℕ → Link Wire
ask byte since = Ask byte since

abbrev hold : ℕ → Link Wire
hold since = Hold since

-- after the keyboard's byte the clock is pulled
afterwards_pulled : (now : ℕ) (came : Option ℕ) (s : ControllerState) → pulled (next_link {F = Wire} now came s) ≡ Some now
afterwards_pulled now (Some byte) s = refl
afterwards_pulled now None s = by (asks_again s)
  where
    by : (c : Bool) → pulled (if c then ask 0xfe now else hold now) ≡ Some now
    by true = refl
    by false = refl

-- in the cycle in which a byte is received the controller begins to pull the clock
pub received_pulls : (events : List HostEvent) (now : ℕ) (s : Side Wire) (came : Option ℕ) (p : LinkEnd Wire)
    → pulled (goes_on is_breakable events now (record s { port = received now came p })).port.link ≡ Some now
received_pulls events now s came p =
    stays_pulled Wire is_breakable events now (record s { port = received now came p }) now (afterwards_pulled now came p.core) (omega arith)

-- a link that is free while a reply is awaited
pub record Waits (p : LinkEnd Wire) : Type 0 where
  pub free : p.link ≡ Free
  pub awaits : p.awaits ≡ true

took_none : (now : ℕ) (input : Option Taken) (p : LinkEnd Wire) (awaits : Bool) (l : Link Wire) → awaits ≡ true → l ≡ Free
    → (took_where now (held_since now awaits l) input p).port ≡ p
took_none now input p awaits l a e =
    ap (λ b. (took_where now (held_since now b l) input p).port) a ∙ ap (λ k. (took_where now (held_since now true k) input p).port) e

settle_waits : (now : ℕ) (p : LinkEnd Wire) → Waits p → Waits (settled now p).port
settle_waits now p w =
    let input : Option Taken = if p.core.output_full then None else taken p.core in
    let t : LinkEnd Wire = (takes_input now p).port in
    let same : t ≡ p = took_none now input p p.awaits p.link w.awaits w.free in
    let awaits : t.awaits ≡ true = ap (λ (q : LinkEnd Wire). q.awaits) same ∙ w.awaits in
    let free : t.link ≡ Free = ap (λ (q : LinkEnd Wire). q.link) same ∙ w.free in
    record {
      free = ap (λ a. link_after now (t.core.output_full || is_disabled t.core) a t.link) awaits
          ∙ ap (λ l. link_after now (t.core.output_full || is_disabled t.core) true l) free;
      awaits = awaits;
    }

goes_by : (events : List HostEvent) (now : ℕ) (s : Side Wire)
    → (p : LinkEnd Wire) → p ≡ port_by (turn_of events now s) s.port → is_busy p.link ≡ false
    → (goes_on is_breakable events now s).port.link ≡ (settled now p).port.link
unfolding goes_on
goes_by events now s p e h =
    ap (λ q. (settled now (Rattle.ctl_link.specs.Link.broken_off is_breakable now q)).port.link) (sym e)
    ∙ ap (λ q. (settled now q).port.link) (unbroken is_breakable now p h)

awaits_by : (events : List HostEvent) (now : ℕ) (s : Side Wire)
    → (p : LinkEnd Wire) → p ≡ port_by (turn_of events now s) s.port → is_busy p.link ≡ false
    → (goes_on is_breakable events now s).port.awaits ≡ (settled now p).port.awaits
unfolding goes_on
awaits_by events now s p e h =
    ap (λ q. (settled now (Rattle.ctl_link.specs.Link.broken_off is_breakable now q)).port.awaits) (sym e)
    ∙ ap (λ q. (settled now q).port.awaits) (unbroken is_breakable now p h)

-- a link that is free while a reply is awaited stays so in a cycle of the PC's side
pub goes_waits : (events : List HostEvent) (now : ℕ) (s : Side Wire) → Waits s.port → Waits (goes_on is_breakable events now s).port
goes_waits events now s w =
    let p : LinkEnd Wire = port_by (turn_of events now s) s.port in
    let idle : is_busy p.link ≡ false = ap is_busy w.free in
    let q = settle_waits now p (record { free = w.free; awaits = w.awaits }) in
    record {
      free = goes_by events now s p refl idle ∙ q.free;
      awaits = awaits_by events now s p refl idle ∙ q.awaits;
    }

-- it stays so while the clock doesn't fall
board_waits : (events : List HostEvent) (now : ℕ) (latch : Lines) (b : Pc) → Waits b.side.port → (b.clock && not latch.clk) ≡ false
    → Waits (board_cycle events now latch b).side.port
unfolding board_cycle
board_waits events now latch b w still =
    let p : LinkEnd Wire = b.side.port in
    let line : Lines = wires latch b in
    let level : line.clk ≡ latch.clk = ap (λ l. latch.clk && (drive l).clk) w.free ∙ and-true latch.clk in
    let same : (looked now line b).side ≡ b.side =
    ap (λ c. record b.side { port = if b.clock && not c then edge_at now line.dat p.link p else p }) level
    ∙ ap (λ c. record b.side { port = if c then edge_at now line.dat p.link p else p }) still in
    let next = goes_waits events now b.side w in
    record {
      free = ap (λ s. (goes_on is_breakable events now s).port.link) same ∙ next.free;
      awaits = ap (λ s. (goes_on is_breakable events now s).port.awaits) same ∙ next.awaits;
    }

-- a link that is free while a reply is awaited stays so in a cycle of the joint run in which the clock doesn't fall
pub cycle_waits : (events : List HostEvent) (p2 now : ℕ) (s : Beside) → Waits s.pc.side.port → (s.pc.clock && not (latch_of p2).clk) ≡ false
    → Waits (joint_cycle events p2 now s).pc.side.port
unfolding joint_cycle
cycle_waits events p2 now s w still =
    board_waits events now (latch_of p2) (record s.pc { side = says_lights now s.shown (lights_of p2) s.pc.side })
    (record { free = w.free; awaits = w.awaits }) still
