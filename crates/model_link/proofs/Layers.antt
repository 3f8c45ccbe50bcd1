-- The layers over edges in their order.
use Rattle.std.proofs.Common.{◌≡◌, ℕ, zero, suc, ◌+◌, ◌<◌, Bool, List, [], ◌∷◌, ◌++◌, length, get_or, take, refl, ap, sym, ◌∙◌, add-one}
use Rattle.std.proofs.Math.Seq.{take-suc}
use Rattle.board_terms.specs.declared.event.Edge.{Edge}
use Rattle.board_terms.specs.declared.event.HostEvent.{HostEvent}
use Rattle.layout_reader.specs.Layouts.{KeyLayout, is_fn_place}
use Rattle.model_keyboard.specs.declared.edge.TickEdge.{TickEdge}
use Rattle.model_keyboard.specs.Layers.{Layers, no_layers, in_layer, layers_after, layered, all_layers_after}
use Rattle.model_link.specs.Laws.{taken_in, taken_before}
use Rattle.model_link.specs.Machine.{keyboard}
use Rattle.model_link.specs.Expected.{whole_at}

module _ (is_fn : ℕ → Bool) where
  -- edges after others
  pub after-append : (xs ys : List (ℕ × Bool)) (l : Layers)
      → all_layers_after is_fn (xs ++ ys) l ≡ all_layers_after is_fn ys (all_layers_after is_fn xs l)
  after-append [] ys l = refl
  after-append (x ∷ xs) ys l = after-append xs ys (layers_after is_fn x l)

  -- one edge more is put in its layer after those before it
  pub layered-more : (xs : List (ℕ × Bool)) (x : ℕ × Bool) (l : Layers)
      → layered is_fn (xs ++ x ∷ []) l ≡ layered is_fn xs l ++ in_layer (all_layers_after is_fn xs l) x ∷ []
  layered-more [] x l = refl
  layered-more (y ∷ ys) x l = ap (λ v. in_layer l y ∷ v) (layered-more ys x (layers_after is_fn y l))

  -- from the first i edges to the first i + 1
  more : (edges : List (ℕ × Bool)) (i : ℕ) (edge : ℕ × Bool) → i < length edges → edge ≡ get_or edges i edge
      → take (i + 1) edges ≡ take i edges ++ edge ∷ []
  more edges i edge within is =
      rw (add-one, take-suc edges i edge within) refl ∙ ap (λ e. take i edges ++ e ∷ []) (sym is)

  -- one edge more of the list changes the layers as the definition says
  pub next_layers : (edges : List (ℕ × Bool)) (i : ℕ) (edge : ℕ × Bool) (l now then : Layers) → i < length edges
      → edge ≡ get_or edges i edge → now ≡ all_layers_after is_fn (take i edges) l → then ≡ layers_after is_fn edge now
      → then ≡ all_layers_after is_fn (take (i + 1) edges) l
  next_layers edges i edge l now then within is so_far next =
      next ∙ ap (layers_after is_fn edge) so_far ∙ sym (after-append (take i edges) (edge ∷ []) l)
      ∙ ap (λ es. all_layers_after is_fn es l) (sym (more edges i edge within is))

  -- one edge more of the list is put in its layer as the definition says
  pub next_edge : (edges : List (ℕ × Bool)) (i : ℕ) (edge : ℕ × Bool) (l now : Layers) (done all : List TickEdge) → i < length edges
      → edge ≡ get_or edges i edge → now ≡ all_layers_after is_fn (take i edges) l → done ≡ layered is_fn (take i edges) l
      → all ≡ done ++ in_layer now edge ∷ [] → all ≡ layered is_fn (take (i + 1) edges) l
  next_edge edges i edge l now done all within is so_far so_done next =
      next ∙ ap (λ v. v ++ in_layer now edge ∷ []) so_done
      ∙ ap (λ v. layered is_fn (take i edges) l ++ in_layer v edge ∷ []) so_far
      ∙ sym (layered-more (take i edges) edge l) ∙ ap (λ es. layered is_fn es l) (sym (more edges i edge within is))

-- over all ticks
pub layers_follow : (layout : KeyLayout) (edges : List Edge) (host : List HostEvent) (starts : ℕ → ℕ) (n : ℕ)
    → (whole_at (keyboard layout) edges host starts n).keys.layers
    ≡ all_layers_after (is_fn_place layout) (taken_before layout edges host starts n) no_layers
layers_follow layout edges host starts zero = refl
layers_follow layout edges host starts (suc n) =
    ap (all_layers_after (is_fn_place layout) (taken_in layout edges host starts n)) (layers_follow layout edges host starts n)
    ∙ sym (after-append (is_fn_place layout) (taken_before layout edges host starts n) (taken_in layout edges host starts n)
    no_layers)
