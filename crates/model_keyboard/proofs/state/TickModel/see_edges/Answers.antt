use Rattle.std.proofs.Common.{rules}
use Rattle.model_keyboard.specs.Codes.{keys_of}
use Rattle.model_keyboard.proofs.Edges.{edges_next}
use Rattle.model_keyboard.proofs.state.TickModel.see_edges.Goals as goal

pub loop-edge-preserved : goal.loop-edge-preserved
loop-edge-preserved c = record {
  seen = edges_next c.args.scanning (keys_of c.args.layout.now) c.args.edges.now c.loop-edge.edge-index
      c.edge-item.result c.args.self.now c.loop-edge.self c.see_edge.new.self
      c.loop-edge-test.true c.edge-item.is c.loop-edge.invariant.seen c.see_edge.ensures.seen;
  known = search rules;
}
