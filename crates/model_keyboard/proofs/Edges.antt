-- The edges one by one.
use Rattle.std.proofs.Common.{◌≡◌, ℕ, ◌+◌, ◌<◌, Bool, List, [], ◌∷◌, ◌++◌, length, get_or, take, refl, ap, sym, ◌∙◌, add-one}
use Rattle.std.proofs.Math.Seq.{take-suc}
use Rattle.model_keyboard.specs.declared.edge.TickEdge.{TickEdge}
use Rattle.model_keyboard.specs.Codes.{Keys}
use Rattle.model_keyboard.specs.Keyboard.{Keyboard}
use Rattle.model_keyboard.specs.Tick.{edge_if, edges_if}

-- one more edge comes after the others
pub edges-more : (scanning : Bool) (keys : Keys) (edges : List TickEdge) (edge : TickEdge) (k : Keyboard)
    → edges_if scanning keys (edges ++ edge ∷ []) k ≡ edge_if scanning keys edge.place edge.down edge.on_fn (edges_if scanning keys edges k)
edges-more scanning keys [] edge k = refl
edges-more scanning keys (e ∷ es) edge k = edges-more scanning keys es edge (edge_if scanning keys e.place e.down e.on_fn k)

-- from the first i edges to the first i + 1
pub edges_next : (scanning : Bool) (keys : Keys) (edges : List TickEdge) (i : ℕ) (edge : TickEdge) (k before after : Keyboard)
    → i < length edges → edge ≡ get_or edges i edge → before ≡ edges_if scanning keys (take i edges) k
    → after ≡ edge_if scanning keys edge.place edge.down edge.on_fn before → after ≡ edges_if scanning keys (take (i + 1) edges) k
edges_next scanning keys edges i edge k before after within is so_far next =
    next ∙ ap (λ b. edge_if scanning keys edge.place edge.down edge.on_fn b) so_far
    ∙ sym (edges-more scanning keys (take i edges) edge k)
    ∙ ap (λ e. edges_if scanning keys (take i edges ++ e ∷ []) k) is
    ∙ sym (rw (add-one, take-suc edges i edge within) refl)
