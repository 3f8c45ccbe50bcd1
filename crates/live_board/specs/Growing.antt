-- A story that grows at its end: the run of what was goes on.
use Rattle.std.specs.Prelude.{◌≡◌, ◌≤◌, ℕ, ◌+◌, List, ◌++◌, Some}
use Rattle.std.specs.List.{All}
use Rattle.board_terms.specs.declared.event.Edge.{Edge}
use Rattle.board_terms.specs.declared.event.HostEvent.{HostEvent}
use Rattle.joint_feed.specs.Stories.{Story, state_at}
use Rattle.joint_run.specs.Joint.{Beside}
use Rattle.joint_run.specs.Run.{World}

-- a story with more edges and more events of the host after those that it has
abbrev pub grown : Story → List Edge → List HostEvent → Story
grown s edges events = record {
  bytes = s.bytes;
  edges = s.edges ++ edges;
  events = s.events ++ events;
  stop = s.stop;
  held = s.held;
}

-- no stamp of theirs is reached before this cycle. Cycle 4,096 is stamp 0
pub record AreAhead (cycle : ℕ) (edges : List Edge) (events : List HostEvent) : Type 0 where
  pub edges_ahead : All (λ e. cycle ≤ e.stamp + 4096) edges
  pub events_ahead : All (λ e. cycle ≤ e.stamp + 4096) events

-- an event whose stamp isn't reached before a state's cycle changes neither that state nor an earlier one
abbrev pub GrowsAtEnd : Type 0
GrowsAtEnd =
    (s : Story) (edges : List Edge) (events : List HostEvent) (k : ℕ) (w : World Beside) → state_at s k ≡ Some w
    → AreAhead w.cycle edges events → state_at (grown s edges events) k ≡ Some w
