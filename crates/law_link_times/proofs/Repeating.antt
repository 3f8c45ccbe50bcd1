-- The key that repeats: a tick less to wait, and what the edges make of it.
use Rattle.std.proofs.Common.{◌≡◌, ℕ, Bool, true, false, List, [], ◌∷◌, map, Some, None, refl, ap, ◌∙◌}
use Rattle.std.specs.Prelude.{if◌then◌else◌}
use Rattle.std.specs.declared.option.Option.{Option}
use Rattle.model_keyboard.specs.declared.edge.TickEdge.{TickEdge}
use Rattle.model_keyboard.specs.declared.state.Repeat.{Repeat}
use Rattle.model_keyboard.specs.Codes.{Keys}
use Rattle.model_keyboard.specs.Keyboard.{Keyboard}
use Rattle.model_keyboard.specs.Layers.{Layers, layered, layers_after}
use Rattle.model_keyboard.specs.Tick.{edge_if, edges_if, repeated, repeated_if}
use Rattle.law_link_times.specs.Coming.{change_in, repeats_by, repeats_then, waits_less}

-- an edge
edge_repeats : (keys : Keys) (place : ℕ) (down on_fn : Bool) (k : Keyboard)
    → (edge_if true keys place down on_fn k).repeats
    ≡ repeats_by keys k.rate (record { place = place; down = down; on_fn = on_fn }) k.repeats
edge_repeats keys place true on_fn k = refl
edge_repeats keys place false on_fn k = refl

edge_rate : (on : Bool) (keys : Keys) (place : ℕ) (down on_fn : Bool) (k : Keyboard)
    → (edge_if on keys place down on_fn k).rate ≡ k.rate
edge_rate true keys place true on_fn k = refl
edge_rate true keys place false on_fn k = refl
edge_rate false keys place down on_fn k = refl

-- and all of them
edges_rate : (on : Bool) (keys : Keys) (edges : List TickEdge) (k : Keyboard) → (edges_if on keys edges k).rate ≡ k.rate
edges_rate on keys [] k = refl
edges_rate on keys (e ∷ es) k =
    edges_rate on keys es (edge_if on keys e.place e.down e.on_fn k) ∙ edge_rate on keys e.place e.down e.on_fn k

edges_repeat : (keys : Keys) (edges : List TickEdge) (k : Keyboard)
    → (edges_if true keys edges k).repeats ≡ repeats_then keys k.rate edges k.repeats
edges_repeat keys [] k = refl
edges_repeat keys (e ∷ es) k =
    let k' : Keyboard = edge_if true keys e.place e.down e.on_fn k in
    edges_repeat keys es k'
    ∙ ap (λ v. repeats_then keys v es k'.repeats) (edge_rate true keys e.place e.down e.on_fn k)
    ∙ ap (λ v. repeats_then keys k.rate es v) (edge_repeats keys e.place e.down e.on_fn k)

edges_silent : (keys : Keys) (edges : List TickEdge) (k : Keyboard) → (edges_if false keys edges k).repeats ≡ k.repeats
edges_silent keys [] k = refl
edges_silent keys (e ∷ es) k = edges_silent keys es (edge_if false keys e.place e.down e.on_fn k)

-- the step of its wait
steps_wait : (r : Option Repeat) (keys : Keys) (inhibited : Bool) (k : Keyboard) → k.repeats ≡ r
    → (repeated r keys inhibited k).repeats ≡ waits_less k.rate r
steps_wait None keys inhibited k e = e
steps_wait (Some r) keys inhibited k e = refl

steps_rate : (r : Option Repeat) (keys : Keys) (inhibited : Bool) (k : Keyboard)
    → (repeated r keys inhibited k).rate ≡ k.rate
steps_rate None keys inhibited k = refl
steps_rate (Some r) keys inhibited k = refl

-- steps 4 and 5, by whether scanning is on
pub scans_rate : (on : Bool) (keys : Keys) (inhibited : Bool) (edges : List TickEdge) (k : Keyboard)
    → (edges_if on keys edges (repeated_if on keys inhibited k)).rate ≡ k.rate
scans_rate true keys inhibited edges k =
    edges_rate true keys edges (repeated k.repeats keys inhibited k) ∙ steps_rate k.repeats keys inhibited k
scans_rate false keys inhibited edges k = edges_rate false keys edges (record k { repeats = None })

-- the key that repeats has a tick less to wait, and then what the tick's edges make of it; without scanning there is
-- none
pub scans_repeat : (on : Bool) (keys : Keys) (inhibited : Bool) (edges : List TickEdge) (k : Keyboard)
    → (edges_if on keys edges (repeated_if on keys inhibited k)).repeats
    ≡ (if on then repeats_then keys k.rate edges (waits_less k.rate k.repeats) else None)
scans_repeat true keys inhibited edges k =
    let k' : Keyboard = repeated k.repeats keys inhibited k in
    edges_repeat keys edges k'
    ∙ ap (λ v. repeats_then keys v edges k'.repeats) (steps_rate k.repeats keys inhibited k)
    ∙ ap (λ v. repeats_then keys k.rate edges v) (steps_wait k.repeats keys inhibited k refl)
scans_repeat false keys inhibited edges k = edges_silent keys edges (record k { repeats = None })

-- the edges of a tick in their layers are the same edges
pub layered_same : (is_fn : ℕ → Bool) (edges : List (ℕ × Bool)) (layers : Layers)
    → map change_in (layered is_fn edges layers) ≡ edges
layered_same is_fn [] layers = refl
layered_same is_fn (e ∷ es) layers = ap (λ v. e ∷ v) (layered_same is_fn es (layers_after is_fn e layers))
