-- The two layers: which one an edge belongs to.
use Rattle.std.specs.Prelude.{ℕ, Bool, false, if◌then◌else◌, List, [], ◌∷◌, replicate, slice_index_or, slice_set}
use Rattle.model_keyboard.specs.declared.edge.TickEdge.{TickEdge}

-- whether the Fn key is down, and by place the layer of the last press there
pub record Layers : Type 0 where
  pub fn_down : Bool
  pub pressed_in : List Bool

-- before any edge
abbrev pub no_layers : Layers
no_layers = record { fn_down = false; pressed_in = replicate 96 false }

-- a press is in the layer that the Fn key selects; a release is in that of its press
abbrev pub layer_of : Layers → ℕ → Bool → Bool
layer_of layers place down = if down then layers.fn_down else slice_index_or layers.pressed_in place false

-- an edge, by its place and whether the key went down, and its layer
abbrev pub in_layer : Layers → ℕ × Bool → TickEdge
in_layer layers (place, down) = record { place = place; down = down; on_fn = layer_of layers place down }

-- a press leaves its layer; the Fn key selects it
abbrev pub layers_after : (ℕ → Bool) → ℕ × Bool → Layers → Layers
layers_after is_fn (place, down) layers = record {
  fn_down = if is_fn place then down else layers.fn_down;
  pressed_in = if down then slice_set layers.pressed_in place layers.fn_down else layers.pressed_in;
}

-- edges one after the other, each with its layer; and the layers after them
abbrev pub layered : (ℕ → Bool) → List (ℕ × Bool) → Layers → List TickEdge
layered is_fn [] layers = []
layered is_fn (edge ∷ edges) layers = in_layer layers edge ∷ layered is_fn edges (layers_after is_fn edge layers)

abbrev pub all_layers_after : (ℕ → Bool) → List (ℕ × Bool) → Layers → Layers
all_layers_after is_fn [] layers = layers
all_layers_after is_fn (edge ∷ edges) layers = all_layers_after is_fn edges (layers_after is_fn edge layers)
