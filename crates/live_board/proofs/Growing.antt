-- A run goes on where its story grows at its end.
use Rattle.std.proofs.Common.{◌≡◌, ◌≤◌, ℕ, zero, suc, ◌+◌, List, Some, ap, ◌∙◌, arith}
use Rattle.std.specs.List.{All}
use Rattle.board_terms.specs.declared.event.Edge.{Edge}
use Rattle.board_terms.specs.declared.event.HostEvent.{HostEvent}
use Rattle.live_board.proofs.Timed.{before, joined, step_later}
use Rattle.joint_feed.specs.Stories.{Story, state_at}
use Rattle.joint_run.specs.Joint.{Beside, joint_board}
use Rattle.joint_run.specs.Run.{World, after_step, seen, step_on}
use Rattle.mcs48_core.specs.Step.{stepped}
use Rattle.live_board.proofs.Alike.{pins_alike, step_alike}
use Rattle.live_board.specs.Growing.{GrowsAtEnd, grown}

still_ahead : (soon late : ℕ) (edges : List Edge)
    → soon ≤ late → All (λ e. late ≤ e.stamp + 4096) edges → All (λ e. soon ≤ e.stamp + 4096) edges
still_ahead soon late edges l h = λ i d m. let k = h i d m in omega (arith, k, l)

still_ahead_events : (soon late : ℕ) (events : List HostEvent)
    → soon ≤ late → All (λ e. late ≤ e.stamp + 4096) events → All (λ e. soon ≤ e.stamp + 4096) events
still_ahead_events soon late events l h = λ i d m. let k = h i d m in omega (arith, k, l)

-- an event that isn't due before a state's cycle changes neither that state nor an earlier one
pub grows : GrowsAtEnd
grows s edges events zero w h ahead = h
grows s edges events (suc k) w h ahead =
    let t : Story = grown s edges events in
    let first = before s k w h in
    let v : World Beside = first.0 in
    let here : state_at s k ≡ Some v = first.1 in
    let later = step_later s k v w here h in
    let soon : v.cycle ≤ w.cycle = omega (arith, later) in
    let so_far : state_at t k ≡ Some v =
    grows s edges events k v here
    (record {
      edges_ahead = still_ahead v.cycle w.cycle edges soon ahead.edges_ahead;
      events_ahead = still_ahead_events v.cycle w.cycle events soon ahead.events_ahead;
    }) in
    let pins = seen (joint_board s.edges s.events) v in
    ap (step_on (joint_board t.edges t.events) t.bytes) so_far
    ∙ ap (λ p. after_step (joint_board t.edges t.events) v (stepped s.bytes p v.cpu))
    (pins_alike s.edges edges w.cycle v.cpu.p1 v.cpu.p2 v.cycle v.board later ahead.edges_ahead)
    ∙ step_alike s.events events w.cycle ahead.events_ahead s.edges edges v w (stepped s.bytes pins v.cpu)
    (omega arith) (joined s k v w here h)
