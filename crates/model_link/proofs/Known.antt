-- The edges of a tick are of keys of the layout, where all edges are.
use Rattle.std.proofs.Common.{arith, [], ◌∷◌, ◌-◌, ◌*◌, ◌≤◌, ◌<◌, ◌^◌, ◌≡◌, ℕ, suc, zero, List, Bool, ◌==◌, ◌+◌, ap, sym, ◌∙◌, add-one}
use Rattle.std.specs.Prelude.{All}
use Rattle.std.specs.List.{filter}
use Rattle.std.proofs.lemmas.List.Elements.{All-filter, All-map, All-append, All-cons, All-nil}
use Rattle.board_terms.specs.declared.event.Edge.{Edge}
use Rattle.board_terms.specs.Edges.{of_place}
use Rattle.board_terms.specs.declared.event.HostEvent.{HostEvent}
use Rattle.board_terms.specs.Cadence.{KeepsCadenceTo, IsLast}
use Rattle.model_keyboard.specs.declared.edge.TickEdge.{TickEdge}
use Rattle.model_keyboard.specs.Layers.{Layers, in_layer, layers_after, layered}
use Rattle.model_link.specs.TickEdges.{is_seen, by_place, change_of, tick_edges}
use Rattle.model_link.specs.Machine.{KeyboardMachine}
use Rattle.model_link.specs.Expected.{Whole, next_tick, whole_at}

module _ (P : Edge → Type 0) where
  by_places : (f : ℕ → List Edge) → ((p : ℕ) → All P (f p)) → (k : ℕ) → All P (by_place f k)
  by_places f h zero = All-nil P
  by_places f h (suc k) = All-append P (by_place f k) (f k) (by_places f h k) (h k)

-- what is so of the places of all edges is so of the places of a tick's edges
pub tick_edges_known : (Q : ℕ → Type 0) (starts : ℕ → ℕ) (edges : List Edge) (n : ℕ) → All (λ (e : Edge). Q e.place) edges
    → All (λ (c : ℕ × Bool). Q c.0) (tick_edges starts edges n)
tick_edges_known Q starts edges n h =
    All-map (λ (c : ℕ × Bool). Q c.0) change_of (by_place (λ p. filter (is_seen starts n) (of_place p edges)) 96)
    (by_places (λ (e : Edge). Q e.place) (λ p. filter (is_seen starts n) (of_place p edges))
    (λ p. All-filter (is_seen starts n) (λ (e : Edge). Q e.place) (of_place p edges)
    (All-filter (λ (e : Edge). e.place == p) (λ (e : Edge). Q e.place) edges h)) 96)

-- one tick more
pub whole_next : {S : Type 0} (kb : KeyboardMachine S) (edges : List Edge) (host : List HostEvent) (starts : ℕ → ℕ) (n : ℕ) (before after : Whole S)
    → before ≡ whole_at kb edges host starts n → after ≡ next_tick kb edges host starts n before
    → after ≡ whole_at kb edges host starts (n + 1)
whole_next kb edges host starts n before after so_far next =
    next ∙ ap (λ w. next_tick kb edges host starts n w) so_far ∙ ap (λ k. whole_at kb edges host starts k) (sym (add-one n))

-- the edges with their layers are at the same places
pub layered_known : (Q : ℕ → Type 0) (is_fn : ℕ → Bool) (changes : List (ℕ × Bool)) (layers : Layers)
    → All (λ (c : ℕ × Bool). Q c.0) changes
    → All (λ (e : TickEdge). Q e.place) (layered is_fn changes layers)
layered_known Q is_fn [] layers h = All-nil (λ (e : TickEdge). Q e.place)
layered_known Q is_fn (c ∷ cs) layers h =
    All-cons (λ (e : TickEdge). Q e.place) (in_layer layers c) (layered is_fn cs (layers_after is_fn c layers))
    (h 0 c (omega arith)) (layered_known Q is_fn cs (layers_after is_fn c layers) (λ k d l. h (suc k) d (omega (arith, l))))

-- the starts of a run are few
pub few_starts : (starts : ℕ → ℕ) (stop count : ℕ) → stop ≤ 240000000 → 0 < count → KeepsCadenceTo starts (count - 1)
    → IsLast starts stop (count - 1) → count < 2 ^ 32
few_starts starts stop zero e s c l = absurd (omega (arith, s))
few_starts starts stop (suc zero) e s c l = omega arith
few_starts starts stop (suc (suc n)) e s c l =
    let z : suc (suc n) - 1 ≡ suc n = omega arith in
    let b : starts n < stop = l.before n (omega (arith, z)) in
    let a : 2048 * n ≤ starts n = (c n (omega (arith, z))).least in
    omega (arith, a, b, e)
