use Rattle.std.proofs.Common.{ℕ, ap, ◌∙◌}
use Rattle.board_terms.specs.Matrix.{turned}
use Rattle.model_link.proofs.Taken.{next_turned}
use Rattle.model_link.proofs.debouncing.turn_all.Goals as goal

pub loop-place-preserved : goal.loop-place-preserved
loop-place-preserved c =
    next_turned c.args.edges.now c.loop-place.place-index c.loop-place-item.result c.args.keys.now c.loop-place.keys _
    c.loop-place-test.true c.loop-place-item.is c.loop-place.invariant
    (ap (λ (n : ℕ). turned n c.loop-place-item.result.1 c.loop-place.keys) (c.from.ensures ∙ c.number.ensures.number))
