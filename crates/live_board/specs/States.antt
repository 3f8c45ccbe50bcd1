-- The keyboard is at the state of the joint run of its past.
use Rattle.std.specs.Prelude.{◌≡◌, ◌≤◌, ◌<◌, ℕ, ◌+◌, List, [], length, take, drop}
use Rattle.std.specs.List.{All}
use Rattle.board_terms.specs.declared.event.Edge.{Edge}
use Rattle.board_terms.specs.declared.event.HostEvent.{HostEvent}
use Rattle.board_terms.specs.Edges.{AreInOrder}
use Rattle.joint_run.specs.History.{IsInRunFrom}
use Rattle.joint_run.specs.Joint.{Beside}
use Rattle.joint_run.specs.Run.{World}
use Rattle.live_board.specs.Pasts.{Past}
use Rattle.live_board.specs.declared.parts.Parts.{Parts as Keyboard}

-- each stamp is reached at this cycle
pub record AreReached (cycle : ℕ) (edges : List Edge) (events : List HostEvent) : Type 0 where
  pub edges_reached : All (λ e. e.stamp + 4096 ≤ cycle) edges
  pub events_reached : All (λ e. e.stamp + 4096 ≤ cycle) events

-- of the edges of a past so many were made, by steps that began before this cycle; the others came in this cycle
pub record AreParted (cycle made : ℕ) (edges : List Edge) : Type 0 where
  pub made_before : All (λ e. e.stamp + 4096 < cycle) (take made edges)
  pub come_now : All (λ e. cycle ≤ e.stamp + 4096) (drop made edges)

-- the machine is in the state `world` of that run; the edges that the next step is to make wait, and no event of the
-- host does; all events have come by now, and the edges in their order. An edge waits exactly if it came in this cycle,
-- so the past says which edges wait
pub record HasPast (p : Past) (k : Keyboard) : Type 0 where
  pub made : ℕ
  pub made_within : made ≤ length p.edges
  pub world : World Beside
  pub image : k.joint.image.bytes ≡ p.bytes
  pub steps : k.joint.steps ≡ p.steps
  pub in_run : IsInRunFrom p.held p.edges p.events k.joint made world
  pub edges_wait : k.due.edges.items ≡ drop made p.edges
  pub none_waits : k.due.host.items ≡ []
  pub all_done : world.board.pc.side.done ≡ length p.events
  pub order : AreInOrder p.edges
  pub reached : AreReached world.cycle p.edges p.events
  pub parted : AreParted world.cycle made p.edges
