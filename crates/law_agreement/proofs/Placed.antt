-- The edges that a tick's columns show are at places of the layout, where all edges of the history are.
use Rattle.std.proofs.Common.{◌≡◌, ◌≤◌, ◌<◌, ℕ, zero, suc, ◌==◌, nat_le, Bool, true, false, cond, List, [], ◌∷◌, refl, subst, arith}
use Rattle.std.specs.Prelude.{All}
use Rattle.std.specs.List.{filter}
use Rattle.std.proofs.lemmas.Bool.{eqb-true}
use Rattle.std.proofs.lemmas.List.Elements.{All-append, All-cons, All-nil}
use Rattle.board_terms.specs.Edges.{of_place, last_of}
use Rattle.board_terms.specs.declared.event.Edge.{Edge}
use Rattle.layout_reader.specs.Layouts.{KeyLayout, IsKeyLayout, HasEntry, is_fn_place}
use Rattle.model_link.specs.TickEdges.{by_place, change_at, is_down, shown, shown_at}
use Rattle.law_agreement.proofs.Compiled.{is_silent, silent_at_fn}

-- a key that is down has an edge
pub down_placed : (layout : KeyLayout) (p stamp : ℕ) (es : List Edge) → All (λ (e : Edge). HasEntry layout e.place) es
    → is_down es p stamp ≡ true → HasEntry layout p
down_placed layout p stamp [] h is = absurd cc
down_placed layout p stamp (e ∷ es) h is =
    by (e.place == p) refl is (down_placed layout p stamp es (λ k d l. h (suc k) d (omega (arith, l)))) (h 0 e (omega arith))
  where
    by : (b : Bool) → (e.place == p) ≡ b
        → last_of false (filter (λ (x : Edge). nat_le x.stamp stamp) (cond b (e ∷ of_place p es) (of_place p es))) ≡ true
        → (is_down es p stamp ≡ true → HasEntry layout p) → HasEntry layout e.place → HasEntry layout p
    by true same is more own = subst (HasEntry layout) (eqb-true e.place p same) own
    by false other is more own = more is

-- at such a place the kernel's Fn key is the layout's
abbrev pub IsOfLayout : KeyLayout → ℕ × Bool → Type 0
IsOfLayout layout c = is_silent layout c.0 ≡ is_fn_place layout c.0

module _ (layout : KeyLayout) (fine : IsKeyLayout layout) (held now : ℕ → Bool)
    (was : (p : ℕ) → p < 96 → held p ≡ true → HasEntry layout p)
    (is : (p : ℕ) → p < 96 → now p ≡ true → HasEntry layout p) where
  changed : (p : ℕ) (a b : Bool) → (a ≡ true → HasEntry layout p) → (b ≡ true → HasEntry layout p)
      → All (IsOfLayout layout) (change_at p a b)
  changed p true true f g = All-nil (IsOfLayout layout)
  changed p true false f g =
      All-cons (IsOfLayout layout) (p, false) [] (silent_at_fn layout p fine (f refl)) (All-nil (IsOfLayout layout))
  changed p false true f g =
      All-cons (IsOfLayout layout) (p, true) [] (silent_at_fn layout p fine (g refl)) (All-nil (IsOfLayout layout))
  changed p false false f g = All-nil (IsOfLayout layout)

  upto : (k : ℕ) → k ≤ 96 → All (IsOfLayout layout) (by_place (shown_at held now) k)
  upto zero l = All-nil (IsOfLayout layout)
  upto (suc k) l =
      All-append (IsOfLayout layout) (by_place (shown_at held now) k) (change_at k (held k) (now k))
      (upto k (omega (arith, l)))
      (changed k (held k) (now k) (was k (omega (arith, l))) (is k (omega (arith, l))))

  -- the edges that a tick's columns show are at places at which the layout's Fn key alone sends nothing
  pub shown_placed : All (IsOfLayout layout) (shown held now)
  shown_placed = upto 96 (omega arith)
