use Rattle.std.proofs.Common.{◌++◌, [], ◌∷◌, ap, ◌∙◌}
use Rattle.layout_reader.specs.Layouts.{is_fn_place}
use Rattle.model_keyboard.specs.declared.edge.TickEdge.{TickEdge}
use Rattle.model_link.proofs.Layers.{next_edge, next_layers}
use Rattle.model_link.proofs.layering.Layering.follow.Goals as goal

-- one edge more
pub loop-place-preserved : goal.loop-place-preserved
loop-place-preserved c =
    let is_fn = is_fn_place c.args.layout.now in
    let so_far = c.loop-place.invariant in
    let pushed = c.in_ok-push.ensures.items ∙ ap (λ (e : TickEdge). c.loop-place.edges.items ++ e ∷ []) c.follow_edge.ensures.edge in
    record {
      edges = next_edge is_fn c.args.changes.now c.loop-place.place-index c.loop-place-item.result c.args.self.now c.loop-place.self
          c.loop-place.edges.items c.push.new.self.items c.loop-place-test.true c.loop-place-item.is so_far.layers so_far.edges pushed;
      layers = next_layers is_fn c.args.changes.now c.loop-place.place-index c.loop-place-item.result c.args.self.now c.loop-place.self
          c.follow_edge.new.self c.loop-place-test.true c.loop-place-item.is so_far.layers c.follow_edge.ensures.layers;
    }
