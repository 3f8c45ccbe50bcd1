-- The events that the joint machine is handed: the next four edges, and the next two events of the host. A feed gave
-- them and those before them, and no others.
use Rattle.std.specs.Prelude.{◌≡◌, ◌+◌, List, length, take, drop}
use Rattle.board_terms.specs.declared.event.Edge.{Edge}
use Rattle.board_terms.specs.declared.event.HostEvent.{HostEvent}
use Rattle.key_file.specs.Feeds.{Fed}
use Rattle.joint_feed.specs.declared.ahead.Ahead.{Ahead}

pub record IsFed (edges : List Edge) (events : List HostEvent) (ahead : Ahead) : Type 0 where
  pub edges_next : ahead.due.edges.items ≡ take 4 (drop ahead.made edges)
  pub host_next : ahead.due.host.items ≡ take 2 (drop ahead.done events)

pub record HasTaken (fed : Fed) (ahead : Ahead) : Type 0 where
  pub edges : fed.edges ≡ ahead.made + length ahead.due.edges.items
  pub host : fed.host ≡ ahead.done + length ahead.due.host.items
