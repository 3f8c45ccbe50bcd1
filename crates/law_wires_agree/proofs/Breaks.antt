-- A byte of the keyboard under way stays, or is broken off, and the controller pulls from now on.
use Rattle.std.proofs.Common.{◌≡◌, ℕ, ◌≤◌, List, Bool, Some}
use Rattle.ctl_link.specs.declared.link.Link.{Link}
use Rattle.ctl_link.specs.declared.link.Link.TheVariants.{Busy}
use Rattle.ctl_link.specs.Pulls.{pulled}
use Rattle.ctl_link.proofs.Breaks.{Stays, breaks_or_not}
use Rattle.board_terms.specs.declared.event.HostEvent.{HostEvent}
use Rattle.host_turn.specs.Run.{Side, goes_on}
use Rattle.host_turn.specs.Cycle.{port_by}
use Rattle.host_turn.proofs.Turns.{turn_of}
use Rattle.ctl_wire.specs.declared.wire.Wire.{Wire}

-- since when the controller pulls, where it began to in some cycles
pub record Pulls (begin : ℕ) (l : Link Wire) : Type 0 where
  pub since : ℕ
  pub from : begin ≤ since
  pub is : pulled l ≡ Some since

-- after a cycle a byte under way is still so, or was broken off in that cycle, and the controller pulls the clock
pub busy_or_breaks : {F : Type 0} (breaks : F → Bool) (events : List HostEvent) (now : ℕ) (s : Side F) (x : F) → s.port.link ≡ Busy x
    → Stays breaks x now (goes_on breaks events now s).port.link
unfolding goes_on
busy_or_breaks breaks events now s x e = breaks_or_not breaks now (port_by (turn_of events now s) s.port) x e
