use Rattle.std.proofs.Common.{◌≡◌}
use Rattle.model_link.specs.Debounce.{is_down_at, settles}
use Rattle.model_link.specs.TickEdges.{by_place, shown_at}
use Rattle.model_link.proofs.debouncing.settling.Given as goal

abbrev pub invariant-loop-number : goal.invariant-loop-number
invariant-loop-number l = l.edges.items
    ≡ by_place (shown_at (is_down_at l.was) (λ p. settles (is_down_at l.was p) (is_down_at l.before p) (is_down_at l.now p))) l.number
