-- Lists as places, and lists read from their places: one item more before those of which it is known.
use Rattle.std.proofs.Common.{◌≡◌, ◌<◌, ◌-◌, ◌&&◌, ℕ, zero, suc, true, List, [], ◌∷◌, ◌++◌, drop, take, length}
use Rattle.std.proofs.Common.{ap, sym, subst, ◌∙◌, arith}
use Rattle.std.specs.Prelude.{nat_lt, slice_index, slice_index_or}
use Rattle.std.proofs.lemmas.Bool.Decides.{nat_tests}
use Rattle.board_terms.specs.declared.event.Edge.{Edge}
use Rattle.live_items.specs.declared.happened.Happened.{Happened}
use Rattle.joint_bytes.proofs.Pushed.{later_is, one_less}
use Rattle.joint_bytes.specs.Lists.{edge_bytes, edge_in, edges_bytes, edges_in, have_places, item_bytes, item_in, items_bytes, items_in}
use Rattle.joint_bytes.specs.Lists.{no_item}

-- the bytes of a list of edges are those of its first edge and then those of the others
pub edges_more : (n : ℕ) (es : List Edge) (e : Edge) (piece : List ℕ) → 0 < n → 0 < length es → e ≡ slice_index_or es 0 e
    → piece ≡ edge_bytes e → piece ++ edges_bytes (n - 1) (take (length es - 1) (drop 1 es)) ≡ edges_bytes n es
edges_more zero es e piece l m is p = absurd (omega (arith, l))
edges_more (suc n) [] e piece l m is p = absurd (omega (arith, m))
edges_more (suc n) (x ∷ es) e piece l m is p =
    ap (λ s. piece ++ edges_bytes (suc n - 1) s) (later_is 1 (x ∷ es))
    ∙ ap (λ k. piece ++ edges_bytes k es) (one_less n)
    ∙ ap (λ q. q ++ edges_bytes n es) (p ∙ ap edge_bytes is)

-- a list of edges is read from its bytes, if its first edge and the others are
pub edges_all : (n : ℕ) (es : List Edge) (e : Edge) (piece : List ℕ) → 0 < n → 0 < length es → e ≡ slice_index_or es 0 e
    → piece ≡ edge_bytes e → edge_in piece ≡ e
    → edges_in (length (take (length es - 1) (drop 1 es))) (edges_bytes (n - 1) (take (length es - 1) (drop 1 es)))
    ≡ take (length es - 1) (drop 1 es) → edges_in (length es) (edges_bytes n es) ≡ es
edges_all zero es e piece l m is p r h = absurd (omega (arith, l))
edges_all (suc n) [] e piece l m is p r h = absurd (omega (arith, m))
edges_all (suc n) (x ∷ es) e piece l m is p r h =
    let first : edge_in (edge_bytes x) ≡ x = ap (λ y. edge_in (edge_bytes y)) (sym is) ∙ ap edge_in (sym p) ∙ r ∙ is in
    let most : edges_in (length es) (edges_bytes (suc n - 1) es) ≡ es =
    subst (λ (s : List Edge). edges_in (length s) (edges_bytes (suc n - 1) s) ≡ s) (later_is 1 (x ∷ es)) h in
    let later : edges_in (length es) (edges_bytes n es) ≡ es =
    ap (λ k. edges_in (length es) (edges_bytes k es)) (sym (one_less n)) ∙ most in
    λ i. first i ∷ later i

-- the bytes of a list have places of the matrix, if those of its first edge and of the others do
pub places_all : (n : ℕ) (es : List Edge) (e : Edge) (piece : List ℕ) → 0 < n → 0 < length es → e ≡ slice_index_or es 0 e
    → piece ≡ edge_bytes e → slice_index piece 8 < 96
    → have_places (length (take (length es - 1) (drop 1 es))) (edges_bytes (n - 1) (take (length es - 1) (drop 1 es))) ≡ true
    → have_places (length es) (edges_bytes n es) ≡ true
places_all zero es e piece l m is p r h = absurd (omega (arith, l))
places_all (suc n) [] e piece l m is p r h = absurd (omega (arith, m))
places_all (suc n) (x ∷ es) e piece l m is p r h =
    let at : slice_index piece 8 ≡ x.place = ap (λ q. slice_index q 8) (p ∙ ap edge_bytes is) in
    let near : nat_lt x.place 96 ≡ true = grind (arith, nat_tests, r, at) in
    let most : have_places (length es) (edges_bytes (suc n - 1) es) ≡ true =
    subst (λ (s : List Edge). have_places (length s) (edges_bytes (suc n - 1) s) ≡ true) (later_is 1 (x ∷ es)) h in
    let later : have_places (length es) (edges_bytes n es) ≡ true =
    ap (λ k. have_places (length es) (edges_bytes k es)) (sym (one_less n)) ∙ most in
    ap (λ b. b && have_places (length es) (edges_bytes n es)) near ∙ later

-- no item any more: a place of zeros
pub items_rest : (n : ℕ) (is : List Happened) → 0 < n → length is < 1
    → (0 ∷ 0 ∷ 0 ∷ 0 ∷ 0 ∷ 0 ∷ 0 ∷ 0 ∷ 0 ∷ 0 ∷ 0 ∷ []) ++ items_bytes (n - 1) is ≡ items_bytes n is
items_rest zero is l m = absurd (omega (arith, l))
items_rest (suc n) (x ∷ is) l m = absurd (omega (arith, m))
items_rest (suc n) [] l m = ap (λ k. (0 ∷ 0 ∷ 0 ∷ 0 ∷ 0 ∷ 0 ∷ 0 ∷ 0 ∷ 0 ∷ 0 ∷ 0 ∷ []) ++ items_bytes k []) (one_less n)

-- the bytes of a list of items are those of its first item and then those of the others
pub items_more : (n : ℕ) (is : List Happened) (piece : List ℕ) → 0 < n → 0 < length is
    → piece ≡ item_bytes (slice_index_or is 0 no_item)
    → piece ++ items_bytes (n - 1) (take (length is - 1) (drop 1 is)) ≡ items_bytes n is
items_more zero is piece l m p = absurd (omega (arith, l))
items_more (suc n) [] piece l m p = absurd (omega (arith, m))
items_more (suc n) (x ∷ is) piece l m p =
    ap (λ s. piece ++ items_bytes (suc n - 1) s) (later_is 1 (x ∷ is))
    ∙ ap (λ k. piece ++ items_bytes k is) (one_less n)
    ∙ ap (λ q. q ++ items_bytes n is) p

-- a list of items is read from its bytes, if its first item and the others are
pub items_all : (n : ℕ) (is : List Happened) (piece : List ℕ) → 0 < n → 0 < length is
    → piece ≡ item_bytes (slice_index_or is 0 no_item) → item_in piece ≡ slice_index_or is 0 no_item
    → items_in (length (take (length is - 1) (drop 1 is))) (items_bytes (n - 1) (take (length is - 1) (drop 1 is)))
    ≡ take (length is - 1) (drop 1 is) → items_in (length is) (items_bytes n is) ≡ is
items_all zero is piece l m p r h = absurd (omega (arith, l))
items_all (suc n) [] piece l m p r h = absurd (omega (arith, m))
items_all (suc n) (x ∷ is) piece l m p r h =
    let first : item_in (item_bytes x) ≡ x = ap item_in (sym p) ∙ r in
    let most : items_in (length is) (items_bytes (suc n - 1) is) ≡ is =
    subst (λ (s : List Happened). items_in (length s) (items_bytes (suc n - 1) s) ≡ s) (later_is 1 (x ∷ is)) h in
    let later : items_in (length is) (items_bytes n is) ≡ is =
    ap (λ k. items_in (length is) (items_bytes k is)) (sym (one_less n)) ∙ most in
    λ i. first i ∷ later i
