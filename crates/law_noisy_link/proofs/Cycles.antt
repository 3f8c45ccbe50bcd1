-- What stays so of the controller over cycles in which nothing comes over the link.
use Rattle.std.proofs.Common.{ℕ, zero, suc, List}
use Rattle.std.specs.List.{slice_get}
use Rattle.std.specs.declared.option.Option.{Option}
use Rattle.board_terms.specs.declared.event.HostEvent.{HostEvent}
use Rattle.model_controller.specs.declared.UnderWay.{UnderWay}
use Rattle.model_controller.specs.ByteTime.{Event, Quiet, is_open, happened_at, byte_cycle, quietly}
use Rattle.ctl_link.specs.declared.port.LinkEnd.{LinkEnd}
use Rattle.host_turn.specs.declared.desk.Desk.{Desk}
use Rattle.host_turn.specs.Cycle.{cycled}
use Rattle.host_turn.specs.Run.{Side, desk_of, goes_on}

-- a cycle of the PC's side keeps this of the controller
abbrev pub Stays : (LinkEnd UnderWay → Type 0) → Type 0
Stays P = (now : ℕ) (next : Option HostEvent) (d : Desk UnderWay) → P d.port → P (cycled is_open now next d).desk.port

-- a cycle, whatever came over the link before it
pub cycle_gives : (P Q : LinkEnd UnderWay → Type 0) (events : List HostEvent) (now : ℕ) (event : Event) (m : Side UnderWay)
    → ((next : Option HostEvent) (d : Desk UnderWay) → P d.port → Q (cycled is_open now next d).desk.port)
    → P (happened_at now event m.port) → Q (byte_cycle events now event m).port
unfolding byte_cycle goes_on
cycle_gives P Q events now event m gives h =
    gives (slice_get events m.done) (desk_of (record m { port = happened_at now event m.port })) h

-- a cycle keeps of the controller what both the PC's side and what comes over the link keep
pub cycle_keeps : (P : LinkEnd UnderWay → Type 0) → Stays P → (events : List HostEvent) (now : ℕ) (event : Event) (m : Side UnderWay)
    → P (happened_at now event m.port) → P (byte_cycle events now event m).port
cycle_keeps P stays events now event m h = cycle_gives P P events now event m (stays now) h

-- cycles in which nothing comes over the link keep of the controller what the PC's side keeps
pub span_keeps : (P : LinkEnd UnderWay → Type 0)
    → Stays P → (events : List HostEvent) (n now : ℕ) (m : Side UnderWay) → P m.port → P (quietly events n now m).port
span_keeps P stays events zero now m h = h
span_keeps P stays events (suc n) now m h =
    span_keeps P stays events n (suc now) (byte_cycle events now Quiet m) (cycle_keeps P stays events now Quiet m h)
