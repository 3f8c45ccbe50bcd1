-- A matrix shows the edges that were applied to it.
use Rattle.std.proofs.Common.{◌≡◌, ℕ, suc, zero, ◌<◌, ◌≤◌, ◌≢◌, Bool, true, false, List, [], ◌∷◌}
use Rattle.std.proofs.Common.{length, get_or, set, take, refl, ap, sym, ◌∙◌, arith, ◌==◌}
use Rattle.std.specs.Prelude.{if◌then◌else◌, replicate}
use Rattle.std.specs.List.{filter}
use Rattle.std.proofs.lemmas.Bool.{eqb-true}
use Rattle.std.proofs.lemmas.Bool.Decides.{nat_tests}
use Rattle.std.proofs.lemmas.List.{get_or-set_same, get_or-set_other, length-set}
use Rattle.board_terms.specs.declared.event.Edge.{Edge}
use Rattle.board_terms.specs.Edges.{of_place, last_of, is_made, AreInOrder}
use Rattle.board_terms.specs.Matrix.{all_up, turned, turned_by}
use Rattle.board_terms.specs.Laws.{AreFirst, EdgesShown, FirstEdgesShown}

-- a filter at the head of a list
pub skip : {X : Type 0} (p : X → Bool) (x : X) (xs : List X) → p x ≡ false → filter p (x ∷ xs) ≡ filter p xs
skip p x xs h = ap (λ c. if c then x ∷ filter p xs else filter p xs) h

-- an element that passes a test stays at the front
pub keep : {X : Type 0} (p : X → Bool) (x : X) (xs : List X) → p x ≡ true → filter p (x ∷ xs) ≡ x ∷ filter p xs
keep p x xs h = ap (λ c. if c then x ∷ filter p xs else filter p xs) h

-- edges applied to keys, at one place
pub shown_from : (edges : List Edge) (keys : List Bool) (place : ℕ) → length keys ≡ 96 → place < 96
    → get_or (turned_by edges keys) place false ≡ last_of (get_or keys place false) (of_place place edges)
shown_from [] keys place n l = refl
shown_from (e ∷ es) keys place n l =
    let after : List Bool = turned e.place e.down keys in
    let m : length after ≡ 96 = length-set keys e.place e.down ∙ n in
    let less : place < length keys = omega (arith, n, l) in
    let rest = shown_from es after place m l in
    elim (e.place == place) as (λ b. (e.place == place) ≡ b
    → get_or (turned_by es after) place false ≡ last_of (get_or keys place false) (of_place place (e ∷ es))) [
      | true ↦ λ h.
          let at : e.place ≡ place = eqb-true e.place place h in
          let here : get_or after place false ≡ e.down = ap (λ k. get_or (set keys k e.down) place false) at
          ∙ get_or-set_same keys place e.down false less in
          rest ∙ ap (λ b. last_of b (of_place place es)) here
          ∙ ap (λ v. last_of (get_or keys place false) v) (sym (keep (λ (x : Edge). x.place == place) e es h))
      | false ↦ λ h.
          let apart : place ≢ e.place = grind (arith, nat_tests, h) in
          rest ∙ ap (λ b. last_of b (of_place place es)) (get_or-set_other keys e.place place e.down false apart)
          ∙ ap (λ v. last_of (get_or keys place false) v) (sym (skip (λ (x : Edge). x.place == place) e es h))
    ] refl

none_down : (n place : ℕ) → get_or (replicate n false) place false ≡ false
none_down zero place = refl
none_down (suc n) zero = refl
none_down (suc n) (suc place) = none_down n place

-- edges made in their order, from all keys up, show each key as its edges say
pub edges_shown : EdgesShown
edges_shown edges at place l =
    shown_from edges all_up place refl l ∙ ap (λ b. last_of b (of_place place edges)) (none_down 96 place)

-- the made edges of a place, at the head of a list
not_made : (cycle place : ℕ) (e : Edge) (es : List Edge) → is_made cycle e ≡ false
    → filter (is_made cycle) (of_place place (e ∷ es)) ≡ filter (is_made cycle) (of_place place es)
not_made cycle place e es h =
    elim (e.place == place) as (λ b. filter (is_made cycle) (if b then e ∷ of_place place es else of_place place es)
    ≡ filter (is_made cycle) (of_place place es)) [
      | true ↦ skip (is_made cycle) e (of_place place es) h
      | false ↦ refl
    ]

is_one : (cycle place : ℕ) (e : Edge) (es firsts : List Edge) → is_made cycle e ≡ true
    → of_place place firsts ≡ filter (is_made cycle) (of_place place es)
    → of_place place (e ∷ firsts) ≡ filter (is_made cycle) (of_place place (e ∷ es))
is_one cycle place e es firsts h same =
    elim (e.place == place) as (λ b. (if b then e ∷ of_place place firsts else of_place place firsts)
    ≡ filter (is_made cycle) (if b then e ∷ of_place place es else of_place place es)) [
      | true ↦ ap (λ v. e ∷ v) same ∙ sym (keep (is_made cycle) e (of_place place es) h)
      | false ↦ same
    ]

-- no later edge is made, where one isn't
pub later_not : (cycle : ℕ) (e f : Edge) → e.stamp ≤ f.stamp → is_made cycle e ≡ false → is_made cycle f ≡ false
later_not cycle e f l h = grind (arith, nat_tests, l, h)

none_made : (cycle place : ℕ) (e : Edge) (es : List Edge) → AreInOrder (e ∷ es) → is_made cycle e ≡ false
    → filter (is_made cycle) (of_place place (e ∷ es)) ≡ []
none_made cycle place e [] order h = not_made cycle place e [] h
none_made cycle place e (f ∷ fs) order h =
    not_made cycle place e (f ∷ fs) h ∙ none_made cycle place f fs order.1 (later_not cycle e f order.0 h)

-- edges in order without the first are in order
pub tail_in_order : (e : Edge) (es : List Edge) → AreInOrder (e ∷ es) → AreInOrder es
tail_in_order e [] order = tt
tail_in_order e (f ∷ fs) order = order.1

-- the edges of a place that are made are those among the first
firsts : (edges : List Edge) (cycle count place : ℕ) → AreInOrder edges → AreFirst edges cycle count
    → of_place place (take count edges) ≡ filter (is_made cycle) (of_place place edges)
firsts [] cycle zero place order first = refl
firsts [] cycle (suc count) place order first = refl
firsts (e ∷ es) cycle zero place order first = sym (none_made cycle place e es order (first.left e refl))
firsts (e ∷ es) cycle (suc count) place order first =
    is_one cycle place e es (take count es) (first.made 0 e (omega arith) refl)
    (firsts es cycle count place (tail_in_order e es order)
    (record { made = λ i x l g. first.made (suc i) x (omega (arith, l)) g; left = λ x g. first.left x g }))

-- the edges up to a cycle, made in order, show the keys that are down at it
pub first_edges_shown : FirstEdgesShown
first_edges_shown edges cycle count place order at first l =
    shown_from (take count edges) all_up place refl l ∙ ap (λ b. last_of b (of_place place (take count edges))) (none_down 96 place)
    ∙ ap (λ v. last_of false v) (firsts edges cycle count place order first)
