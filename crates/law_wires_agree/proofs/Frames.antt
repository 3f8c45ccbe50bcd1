-- The cells of a frame: an edge, and 31 cycles in which the byte is under way.
use Rattle.std.proofs.Common.{◌≡◌, ℕ, suc, ◌+◌, ◌≤◌, List, Bool, true, false, not, ◌&&◌, refl, ap, sym, ◌∙◌, inl, inr, arith}
use Rattle.std.specs.Prelude.{if◌then◌else◌}
use Rattle.ctl_link.specs.declared.link.Link.{Link}
use Rattle.ctl_link.specs.declared.link.Link.TheVariants.{Busy}
use Rattle.ctl_link.specs.declared.port.LinkEnd.{LinkEnd}
use Rattle.board_terms.specs.declared.event.HostEvent.{HostEvent}
use Rattle.host_turn.specs.Run.{Side, goes_on}
use Rattle.board_terms.specs.declared.lines.Lines.{Lines}
use Rattle.ctl_wire.specs.declared.wire.Wire.{Wire}
use Rattle.ctl_wire.specs.Wire.{edge_at, drive, is_breakable}
use Rattle.ctl_wire.specs.Wires.{Pc, board_cycle, looked, wires}
use Rattle.model_controller.specs.declared.UnderWay.{UnderWay}
use Rattle.model_controller.specs.ByteTime.{quietly, byte_cycle, happened_at, Event, is_open}
use Rattle.law_wires_agree.specs.Without.{seen_in_bytes, without_bits, port_by}
use Rattle.law_wires_agree.specs.Cycles.{board_cycles}
use Rattle.law_wires_agree.specs.Cells.{IsCell}
use Rattle.law_wires_agree.proofs.Same.{in_bytes_same}
use Rattle.law_wires_agree.proofs.Spans.{IsAt, On, board_by, clock_by}
use Rattle.law_wires_agree.proofs.Under.{busy_span}
use Rattle.law_wires_agree.proofs.Breaks.{busy_or_breaks}
use Rattle.law_wires_agree.proofs.Pulls.{pulled_span}
use Rattle.ctl_link.specs.Pulls.{pulled}

-- a look at which the clock falls
fall : (now : ℕ) (line : Lines) (b : Pc) → b.clock ≡ true → line.clk ≡ false
    → (looked now line b).side ≡ record b.side { port = edge_at now line.dat b.side.port.link b.side.port }
fall now line b h l =
    ap (λ c. record b.side { port = if c && not line.clk then edge_at now line.dat b.side.port.link b.side.port else b.side.port }) h
    ∙ ap (λ c. record b.side { port = if not c then edge_at now line.dat b.side.port.link b.side.port else b.side.port }) l

-- a cycle in byte time is what comes over the link, and then the cycle of the host and the controller
pub event_by : (events : List HostEvent) (now : ℕ) (e : Event) (m : Side UnderWay)
    → byte_cycle events now e m ≡ goes_on is_open events now (record m { port = happened_at now e m.port })
unfolding byte_cycle
event_by events now e m = refl

-- a cycle at which the clock falls, by what the edge does to the port and what happens in byte time
pub fall_cycle : (events : List HostEvent) (now : ℕ) (latch : Lines) (b : Pc) (l : Link Wire) (p : LinkEnd Wire) (e : Event)
    → IsAt b l true → latch.clk ≡ false → edge_at now (latch.dat && (drive l).dat) l b.side.port ≡ p
    → port_by without_bits p ≡ happened_at now e (port_by without_bits b.side.port)
    → (seen_in_bytes (board_cycle events now latch b).side ≡ byte_cycle events now e (seen_in_bytes b.side))
    × ((board_cycle events now latch b).side ≡ goes_on is_breakable events now (record b.side { port = p }))
    × ((board_cycle events now latch b).clock ≡ false)
fall_cycle events now latch b l p e at low edge same =
    let line : (wires latch b).clk ≡ false = ap (λ c. c && (drive b.side.port.link).clk) low in
    let seen : (looked now (wires latch b) b).side ≡ record b.side { port = p } =
    fall now (wires latch b) b at.clock_is line
    ∙ ap (λ k. record b.side { port = edge_at now (latch.dat && (drive k).dat) k b.side.port }) at.link_is
    ∙ ap (λ q. record b.side { port = q }) edge in
    let whole : (board_cycle events now latch b).side
    ≡ goes_on is_breakable events now (record b.side { port = p }) = board_by events now latch b (record b.side { port = p }) seen in (
      ap seen_in_bytes whole ∙ sym (in_bytes_same events now (record b.side { port = p }))
          ∙ ap (λ q. goes_on is_open events now (record (seen_in_bytes b.side) { port = q })) same
          ∙ sym (event_by events now e (seen_in_bytes b.side)),
      whole,
      clock_by events now latch b ∙ ap (λ c. c && (drive b.side.port.link).clk) low,
    )

-- a cell: the edge, and 31 cycles in which the byte is under way, or is broken off
pub cell : (events : List HostEvent) (latch : ℕ → Lines) (now : ℕ) (dat : Bool) (b : Pc) (l : Link Wire) (w : Wire)
    (q : LinkEnd Wire) (e : Event) → IsCell latch now dat → IsAt b l true
    → edge_at now (dat && (drive l).dat) l b.side.port ≡ q → q.link ≡ Busy w
    → port_by without_bits q ≡ happened_at now e (port_by without_bits b.side.port)
    → (n : ℕ) → n ≤ 31
    → (seen_in_bytes (board_cycles events latch (suc n) now b).side
    ≡ quietly events n (suc now) (byte_cycle events now e (seen_in_bytes b.side)))
    × On (board_cycles events latch (suc n) now b) w (latch (n + now)).clk now
cell events latch now dat b l w q e is at edge busy same n short =
    let first = fall_cycle events now (latch now) b l q e at is.falls
    (ap (λ d. edge_at now (d && (drive l).dat) l b.side.port) is.level ∙ edge) same in
    let next : Pc = board_cycle events now (latch now) b in
    elim (busy_or_breaks is_breakable events now (record b.side { port = q }) w busy) [
      | inl stays ↦
          let there : IsAt next (Busy w) (latch now).clk =
          record { link_is = ap (λ s. s.port.link) first.1 ∙ stays; clock_is = first.2 ∙ sym is.falls } in
          let rest = busy_span events latch n now next w short there (λ o lo hi. is.once o lo (omega (arith, hi, short))) in (
            rest.0 ∙ ap (λ m. quietly events n (suc now) m) first.0,
            elim rest.1 [
              | inl on ↦ inl on
              | inr broken ↦ let p = broken.1 in inr (broken.0, record { since = p.since; from = omega (arith, p.from); is = p.is })
            ],
          )
      | inr broken ↦
          let rest = pulled_span events latch n (suc now) next now (ap (λ s. pulled s.port.link) first.1 ∙ broken.1)
          (omega (arith, short)) in (
            rest.0 ∙ ap (λ m. quietly events n (suc now) m) first.0,
            inr (broken.0, record { since = now; from = omega arith; is = rest.1 }),
          )
    ]
