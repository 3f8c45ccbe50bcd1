-- An edge of the history that a tick sees is among the tick's edges.
use Rattle.std.proofs.Common.{◌≡◌, ℕ, suc, zero, ◌<◌, ◌==◌, List, [], ◌∷◌, ◌++◌, length, Bool}
use Rattle.std.proofs.Common.{true, false, refl, ap, sym, ◌∙◌, subst, arith}
use Rattle.std.specs.Prelude.{if◌then◌else◌, slice_index_or, Contains}
use Rattle.std.specs.List.{filter}
use Rattle.std.proofs.lemmas.Bool.Decides.{nat_tests}
use Rattle.std.proofs.lemmas.Bool.{eqb-true}
use Rattle.std.proofs.lemmas.List.Elements.{Contains-append_left, Contains-append_right}
use Rattle.board_terms.specs.Edges.{of_place}
use Rattle.board_terms.specs.declared.event.Edge.{Edge}
use Rattle.model_keyboard.specs.Layers.{Layers, in_layer, layer_of, layered, layers_after}
use Rattle.key_file.specs.Histories.{KeyHistory}
use Rattle.layout_reader.specs.Layouts.{KeyLayout, is_fn_place}
use Rattle.model_link.specs.Debounce.{taken}
use Rattle.model_link.specs.Laws.{taken_in}
use Rattle.model_link.specs.TickEdges.{by_place, change_of, is_seen, tick_edges}
use Rattle.law_quiet_log.specs.Once.{at_tick}
use Rattle.law_link_times.specs.Coming.{edges_at}
use Rattle.law_link_times.proofs.Reading.{contains_map}

-- one further on
further : {X : Type 0} (y x : X) (ys : List X) → Contains ys x → Contains (y ∷ ys) x
further y x ys c = let l : c.0 < length ys = c.1 in (suc c.0, omega (arith, l), c.2)

-- what passes a filter
passes_at : {X : Type 0} (p : X → Bool) (xs : List X) (x : X) (k : ℕ) → k < length xs → slice_index_or xs k x ≡ x
    → p x ≡ true → Contains (filter p xs) x
passes_at p [] x k l e h = absurd (omega (arith, l))
passes_at p (y ∷ ys) x zero l e h =
    let t : p y ≡ true = ap p e ∙ h in
    subst (λ c. Contains (if c then y ∷ filter p ys else filter p ys) x) (sym t) (0, omega arith, e)
passes_at p (y ∷ ys) x (suc k) l e h =
    let c : Contains (filter p ys) x = passes_at p ys x k (omega (arith, l)) e h in
    by (p y) c
  where
    by : (b : Bool) → Contains (filter p ys) x → Contains (if b then y ∷ filter p ys else filter p ys) x
    by true c = further y x (filter p ys) c
    by false c = c

-- what is at one place is among what is at all
at_place : {X : Type 0} (f : ℕ → List X) (x : X) (place k : ℕ) → place < k → Contains (f place) x
    → Contains (by_place f k) x
at_place f x place zero l c = absurd (omega (arith, l))
at_place f x place (suc k) l c =
    elim (place == k) as (λ b. (place == k) ≡ b → Contains (by_place f k ++ f k) x) [
      | true ↦ λ e.
          Contains-append_right (by_place f k) (f k) x (subst (λ p. Contains (f p) x) (eqb-true place k e) c)
      | false ↦ λ e.
          let b : place < k = grind (arith, nat_tests, e, l) in
          Contains-append_left (by_place f k) (f k) x (at_place f x place k b c)
    ] refl

-- an edge in its layer
layered_at : (is_fn : ℕ → Bool) (edges : List (ℕ × Bool)) (edge : ℕ × Bool) (layers : Layers) (k : ℕ) → k < length edges
    → slice_index_or edges k edge ≡ edge
    → (on_fn : Bool)
    × Contains (layered is_fn edges layers) (record { place = edge.0; down = edge.1; on_fn = on_fn })
layered_at is_fn [] edge layers k l e = absurd (omega (arith, l))
layered_at is_fn (x ∷ xs) edge layers zero l e =
    subst (λ v. (on_fn : Bool)
    × Contains (layered is_fn (x ∷ xs) layers) (record { place = v.0; down = v.1; on_fn = on_fn })) e
    (layer_of layers x.0 x.1, (0, omega arith, refl))
layered_at is_fn (x ∷ xs) edge layers (suc k) l e =
    let r = layered_at is_fn xs edge (layers_after is_fn x layers) k (omega (arith, l)) e in (
      r.0,
      further (in_layer layers x)
          (record { place = edge.0; down = edge.1; on_fn = r.0 }) (layered is_fn xs (layers_after is_fn x layers)) r.1,
    )

-- without a debounce an edge of the history that a tick sees is among the edges that the tick takes
pub edge_among : (layout : KeyLayout) (history : KeyHistory) (starts : ℕ → ℕ) (n : ℕ) (edge : Edge)
    → layout.debounce ≡ false → Contains history.edges edge → edge.place < 96 → is_seen starts n edge ≡ true
    → (on_fn : Bool)
    × Contains (edges_at layout history starts n)
    (record { place = edge.place; down = edge.down; on_fn = on_fn })
edge_among layout history starts n edge off c l s =
    let here : (edge.place == edge.place) ≡ true = grind (arith, nat_tests) in
    let a : Contains (of_place edge.place history.edges) edge =
    passes_at (λ (e : Edge). e.place == edge.place) history.edges edge c.0 c.1 c.2 here in
    let b : Contains (filter (is_seen starts n) (of_place edge.place history.edges)) edge =
    passes_at (is_seen starts n) (of_place edge.place history.edges) edge a.0 a.1 a.2 s in
    let f : ℕ → List Edge = λ p. filter (is_seen starts n) (of_place p history.edges) in
    let d : Contains (by_place f 96) edge = at_place f edge edge.place 96 l b in
    let m : Contains (tick_edges starts history.edges n) (change_of edge) =
    contains_map change_of (by_place f 96) edge d in
    let t : Contains (taken_in layout history.edges history.host starts n) (change_of edge) =
    subst (λ b. Contains (taken b (tick_edges starts history.edges n) (at_tick layout history starts n).keys.switches)
    (change_of edge)) (sym off) m in
    layered_at (is_fn_place layout) (taken_in layout history.edges history.host starts n) (change_of edge)
    (at_tick layout history starts n).keys.layers t.0 t.1 t.2
