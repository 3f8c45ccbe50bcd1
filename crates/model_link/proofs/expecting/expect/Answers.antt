use Rattle.std.proofs.Common.{List, sym, subst, length}
use Rattle.std.specs.Prelude.{All}
use Rattle.board_terms.specs.declared.event.Edge.{Edge}
use Rattle.board_terms.specs.Cadence.{listed}
use Rattle.board_terms.specs.Edges.{AreInOrder}
use Rattle.layout_reader.specs.Layouts.{HasEntry}
use Rattle.model_link.proofs.Known.{few_starts}
use Rattle.model_link.proofs.expecting.expect.Goals as goal

pub expect_events-requires-clause-order : goal.expect_events-requires-clause-order
expect_events-requires-clause-order c =
    subst (λ (es : List Edge). AreInOrder es) (sym c.edges.ensures.edges) c.requires.accepted.accepted.lawful.edges_in_order

pub expect_events-requires-clause-keys : goal.expect_events-requires-clause-keys
expect_events-requires-clause-keys c =
    subst (λ (es : List Edge). All (λ e. HasEntry c.args.layout.now e.place) es) (sym c.edges.ensures.edges)
    c.requires.accepted.places

pub expect_events-requires-clause-near : goal.expect_events-requires-clause-near
expect_events-requires-clause-near c =
    few_starts (listed c.args.starts.now) c.args.history.now.end (length c.args.starts.now) c.requires.accepted.accepted.end_in_range
    c.requires.some c.requires.cadence c.requires.last
