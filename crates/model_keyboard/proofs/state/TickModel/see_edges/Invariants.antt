use Rattle.std.proofs.Common.{◌≡◌, take}
use Rattle.std.specs.Option.{ForSome}
use Rattle.model_keyboard.specs.Codes.{keys_of, HasCode}
use Rattle.model_keyboard.specs.Tick.{edges_if}
use Rattle.model_keyboard.proofs.state.TickModel.see_edges.Given as goal

abbrev pub invariant-loop-edge : goal.invariant-loop-edge
invariant-loop-edge l = record {
  seen : l.self ≡ edges_if l.scanning (keys_of l.layout) (take l.edge-index l.edges) l.fn.self;
  known : ForSome l.self.repeats (λ r. HasCode l.layout r.place);
}
