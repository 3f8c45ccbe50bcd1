-- Until when nothing can happen on the PC's side.
use Rattle.std.specs.Prelude.{◌≡◌, ◌≤◌, ◌<◌, ℕ, ◌+◌, Bool, false, not, ◌&&◌, ◌||◌, min, [], Some, None, is_some}
use Rattle.std.specs.Prelude.{if◌then◌else◌}
use Rattle.std.specs.declared.option.Option.{Option}
use Rattle.ctl_core.specs.Controller.{ControllerState, interrupt_enabled, is_disabled}
use Rattle.ctl_link.specs.Link.{may_break}
use Rattle.ctl_link.specs.declared.link.Link.{Link}
use Rattle.ctl_link.specs.declared.link.Link.TheVariants.{Free, Hold, Ask, Request, Busy}
use Rattle.board_terms.specs.declared.event.HostEvent.{HostEvent}
use Rattle.host_turn.specs.declared.desk.Desk.{Desk}
use Rattle.host_turn.specs.Host.{waits}
use Rattle.host_turn.specs.Cycle.{cycled}

-- the first cycle in which the host's next event, the read, the break of a byte under way, the taking of the input and
-- the link by itself may come; `end` if none of these cycles is known
abbrev pub event_wake : Option HostEvent → ControllerState → ℕ → ℕ
event_wake None s end = end
event_wake (Some e) s end = if waits e.act s then end else e.stamp + 4096

abbrev pub read_wake : ℕ → Bool → ControllerState → ℕ → ℕ
read_wake filled masked s end = if s.output_full && interrupt_enabled s && not masked then filled + 64 else end

abbrev pub break_wake : {F : Type 0} → (F → Bool) → Link F → Bool → Bool → ℕ → ℕ
break_wake breaks link awaits some end = if may_break breaks link && not awaits && some then 0 else end

abbrev pub take_wake : {F : Type 0} → Link F → Bool → Bool → Bool → ℕ → ℕ
take_wake Free awaits full some end = if awaits then end else if full then end else if some then 0 else end
take_wake (Hold since) awaits full some end = if full then end else if some then 0 else end
take_wake (Ask byte since) awaits full some end = end
take_wake (Request byte) awaits full some end = end
take_wake (Busy u) awaits full some end = end

abbrev pub link_wake : {F : Type 0} → Link F → Bool → Bool → ℕ → ℕ
link_wake Free awaits stop end = if awaits then end else if stop then 0 else end
link_wake (Hold since) awaits stop end = if stop then end else since + 64
link_wake (Ask byte since) awaits stop end = since + 64
link_wake (Request byte) awaits stop end = end
link_wake (Busy u) awaits stop end = end

abbrev pub wakes : {F : Type 0} → (F → Bool) → Option HostEvent → Desk F → ℕ → ℕ
wakes breaks next d end =
    min (min (event_wake next d.port.core end) (read_wake d.port.filled d.masked d.port.core end))
    (min (break_wake breaks d.port.link d.port.awaits (is_some d.port.core.input) end)
    (min (take_wake d.port.link d.port.awaits d.port.core.output_full (is_some d.port.core.input) end)
    (link_wake d.port.link d.port.awaits (d.port.core.output_full || is_disabled d.port.core) end)))

-- nothing happens from a cycle on up to another
abbrev pub SleepsTo : {F : Type 0} → (F → Bool) → Option HostEvent → Desk F → ℕ → ℕ → Type 0
SleepsTo breaks next d from to =
    (y : ℕ) → from ≤ y → y < to → cycled breaks y next d ≡ record { desk = d; items = []; done = false }
