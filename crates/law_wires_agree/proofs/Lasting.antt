-- A pull of the clock lasts 64 cycles at least, in the cycles that the joint run makes.
use Rattle.std.proofs.Common.{◌≡◌, ℕ, suc, not, ◌&&◌, Some, None, List, refl, arith}
use Rattle.board_terms.specs.declared.event.HostEvent.{HostEvent}
use Rattle.board_terms.specs.declared.lines.Lines.{Lines}
use Rattle.ctl_link.specs.Pulls.{pulled}
use Rattle.ctl_wire.specs.declared.wire.Wire.{Wire}
use Rattle.ctl_wire.specs.Wire.{is_breakable}
use Rattle.ctl_wire.proofs.Pulls.{OrNow, look_begins, breaks_once, high_is_none, since_now, pulled_is_low}
use Rattle.host_turn.specs.Run.{Side, goes_on}
use Rattle.host_turn.specs.Cycle.{port_by}
use Rattle.host_turn.proofs.Turns.{turn_of}
use Rattle.ctl_wire.specs.Wires.{Pc, board_cycle, looked, wires}
use Rattle.law_wires_agree.specs.Cycles.{board_cycles}
use Rattle.law_wires_agree.specs.Laws.{PullsLast}
use Rattle.law_wires_agree.proofs.Pulls.{pulled_span}

goes_once : (events : List HostEvent) (now : ℕ) (s : Side Wire) → OrNow now s.port.link
    → OrNow now (goes_on is_breakable events now s).port.link
unfolding goes_on
goes_once events now s h = breaks_once now (port_by (turn_of events now s) s.port) s.port.link refl h

cycle_once : (events : List HostEvent) (now : ℕ) (latch : Lines) (b : Pc) → pulled b.side.port.link ≡ None
    → OrNow now (board_cycle events now latch b).side.port.link
unfolding board_cycle
cycle_once events now latch b h =
    let line : Lines = wires latch b in
    goes_once events now (looked now line b).side (look_begins (b.clock && not line.clk) now line.dat b.side.port h)

-- each pull of the clock by the controller lasts at least 64 cycles
pub pulls_last : PullsLast
pulls_last events latch now n b high low l =
    let next : Pc = board_cycle events now (latch now) b in
    let begins : pulled next.side.port.link ≡ Some now =
    since_now now next.side.port.link (cycle_once events now (latch now) b (high_is_none b.side.port.link high)) low in
    pulled_is_low (board_cycles events latch n (suc now) next).side.port.link now
    (pulled_span events latch n (suc now) next now begins (omega (arith, l))).1
