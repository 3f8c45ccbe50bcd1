use Rattle.std.proofs.Common.{◌≡◌, take}
use Rattle.layout_reader.specs.Layouts.{is_fn_place}
use Rattle.model_keyboard.specs.Layers.{layered, all_layers_after}
use Rattle.model_link.proofs.layering.Layering.follow.Given as goal

abbrev pub invariant-loop-place : goal.invariant-loop-place
invariant-loop-place l = record {
  edges : l.edges.items ≡ layered (is_fn_place l.layout) (take l.place-index l.changes) l.fn.self;
  layers : l.self ≡ all_layers_after (is_fn_place l.layout) (take l.place-index l.changes) l.fn.self;
}
