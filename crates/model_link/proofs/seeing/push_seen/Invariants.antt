use Rattle.std.proofs.Common.{◌≡◌, ◌++◌, take, map}
use Rattle.std.specs.List.{filter}
use Rattle.board_terms.specs.Edges.{of_place}
use Rattle.model_link.specs.TickEdges.{change_of}
use Rattle.model_link.specs.Seeing.{sees}
use Rattle.model_link.proofs.seeing.push_seen.Given as goal

abbrev pub invariant-loop-edge : goal.invariant-loop-edge
invariant-loop-edge l = l.seen.items
    ≡ l.fn.seen.items ++ map change_of (filter (sees l.before l.now) (of_place l.place (take l.edge-index l.edges)))
