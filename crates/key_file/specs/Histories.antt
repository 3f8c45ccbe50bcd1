-- Key histories, and what the lines of a key file come to.
use Rattle.std.specs.Prelude.{ℕ, ◌-◌, List, [], ◌∷◌, ◌++◌, None, Some, if◌then◌else◌}
use Rattle.std.specs.List.{last_or}
use Rattle.std.specs.declared.option.Option.{Option}
use Rattle.board_terms.specs.declared.event.Edge.{Edge}
use Rattle.board_terms.specs.declared.event.HostEvent.{HostEvent}
use Rattle.board_terms.specs.Edges.{of_place}
use Rattle.key_file.specs.declared.event.Event.{Event}
use Rattle.key_file.specs.declared.event.Event.TheVariants.{EdgeOf, HostOf, End}

-- a history: the edges of keys and the events of the host, each in their order, and the stamp of its end
pub record KeyHistory : Type 0 where
  pub edges : List Edge
  pub host : List HostEvent
  pub end : ℕ

-- what the events so far came to: the edges, the host's events, the stamp of the last event (0 before the first one),
-- and the stamp of `end` if that has come
pub record Before : Type 0 where
  pub edges : List Edge
  pub host : List HostEvent
  pub stamp : ℕ
  pub end : Option ℕ

abbrev pub at_first : Before
at_first = record { edges = []; host = []; stamp = 0; end = None }

-- the stamp of an event
abbrev pub stamp_at : Event → ℕ
stamp_at (EdgeOf edge) = edge.stamp
stamp_at (HostOf event) = event.stamp
stamp_at (End stamp) = stamp

-- the events so far with one more
abbrev pub with_event : Before → Event → Before
with_event before (EdgeOf edge) = record before { edges = before.edges ++ edge ∷ []; stamp = edge.stamp }
with_event before (HostOf event) = record before { host = before.host ++ event ∷ []; stamp = event.stamp }
with_event before (End stamp) = record before { stamp = stamp; end = Some stamp }

-- the last edge of the key at a place
abbrev pub last_edge : ℕ → List Edge → Option Edge
last_edge place edges = last_or None (of_place place edges)
