-- The host's turn in a run.
use Rattle.std.specs.Prelude.{ℕ, List, slice_get}
use Rattle.board_terms.specs.declared.event.HostEvent.{HostEvent}
use Rattle.host_turn.specs.Host.{Turn, turn}
use Rattle.host_turn.specs.Cycle.{host_of}
use Rattle.host_turn.specs.Run.{Side, desk_of}

-- the host's turn in a cycle of a run
abbrev pub turn_of : {F : Type 0} → List HostEvent → ℕ → Side F → Turn
turn_of events now s = turn now s.port.filled (slice_get events s.done) (host_of (desk_of s))
