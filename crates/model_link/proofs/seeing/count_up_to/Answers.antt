use Rattle.std.proofs.Common.{rules, of_calls}
use Rattle.std.specs.Prelude.{nat_le}
use Rattle.std.proofs.lemmas.Fn.{always_returns_same}
use Rattle.board_terms.specs.declared.event.Edge.{Edge}
use Rattle.model_link.proofs.Windows.{no_later}
use Rattle.model_link.proofs.seeing.count_up_to.Goals as goal

pub returns-clause-point : goal.returns-clause-point
returns-clause-point c =
    c.partition_point.ensures.partitioned (λ (e : Edge). nat_le e.stamp c.args.stamp)
    (always_returns_same _ _ _ (λ a r f k. search (rules, of_calls)))
    (λ i j d l m up. no_later c.args.edges.now c.requires c.args.stamp i j d l m up)
