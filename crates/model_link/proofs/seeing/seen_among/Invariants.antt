use Rattle.std.proofs.Common.{◌≡◌, map}
use Rattle.std.specs.List.{filter}
use Rattle.board_terms.specs.Edges.{of_place}
use Rattle.model_link.specs.TickEdges.{by_place, change_of}
use Rattle.model_link.specs.Seeing.{sees}
use Rattle.model_link.proofs.seeing.seen_among.Given as goal

abbrev pub invariant-loop-place : goal.invariant-loop-place
invariant-loop-place l = l.seen.items ≡ map change_of (by_place (λ p. filter (sees l.before l.now) (of_place p l.edges)) l.place)
