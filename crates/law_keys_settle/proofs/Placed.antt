-- Edges of one place each, put one after the other.
use Rattle.std.proofs.Common.{◌≡◌, ℕ, suc, zero, ◌+◌, ◌==◌, Bool, true, false, List, [], ◌∷◌, ◌++◌, map, refl, ap, sym, ◌∙◌, arith}
use Rattle.std.specs.Prelude.{if◌then◌else◌, nat_lt}
use Rattle.std.specs.List.{filter}
use Rattle.std.proofs.lemmas.Bool.{eqb-true}
use Rattle.std.proofs.lemmas.Bool.Decides.{nat_tests}
use Rattle.std.proofs.lemmas.List.{append-nil, map-append}
use Rattle.std.proofs.lemmas.List.Elements.{filter-append}
use Rattle.board_terms.proofs.Shown.{skip, keep}
use Rattle.board_terms.specs.Edges.{of_place, last_of}
use Rattle.board_terms.specs.declared.event.Edge.{Edge}
use Rattle.model_link.proofs.Edges.{AreAt}
use Rattle.model_link.proofs.Seen.{last_change, last_more}
use Rattle.model_link.specs.TickEdges.{by_place, change_of}
use Rattle.law_keys_settle.specs.Settling.{AreLater}

-- those of a place are all of them, or none
all_of : (p : ℕ) (es : List Edge) → AreAt p es → of_place p es ≡ es
all_of p [] at = refl
all_of p (e ∷ es) at =
    let same : e.place ≡ p = at.0 in
    let here : (e.place == p) ≡ true = grind (arith, nat_tests, same) in
    keep (λ (x : Edge). x.place == p) e es here ∙ ap (λ v. e ∷ v) (all_of p es at.1)

none_of : (p q : ℕ) (es : List Edge) → AreAt p es → (p == q) ≡ false → of_place q es ≡ []
none_of p q [] at apart = refl
none_of p q (e ∷ es) at apart =
    skip (λ (x : Edge). x.place == q) e es (ap (λ v. v == q) at.0 ∙ apart) ∙ none_of p q es at.1 apart

-- and of those of all places below one
pub of_each : (f : ℕ → List Edge) → ((p : ℕ) → AreAt p (f p)) → (q k : ℕ)
    → of_place q (by_place f k) ≡ (if nat_lt q k then f q else [])
of_each f at q zero = let off : nat_lt q 0 ≡ false = grind (arith, nat_tests) in ap (λ c. if c then f q else []) (sym off)
of_each f at q (suc k) =
    filter-append (λ (e : Edge). e.place == q) (by_place f k) (f k) ∙ ap (λ v. v ++ of_place q (f k)) (of_each f at q k)
    ∙ by (k == q) refl
  where
    by : (b : Bool) → (k == q) ≡ b
        → (if nat_lt q k then f q else []) ++ of_place q (f k) ≡ (if nat_lt q (suc k) then f q else [])
    by true h =
        let same : k ≡ q = eqb-true k q h in
        let off : nat_lt q k ≡ false = grind (arith, nat_tests, same) in
        let on : nat_lt q (suc k) ≡ true = grind (arith, nat_tests, same) in
        ap (λ c. (if c then f q else []) ++ of_place q (f k)) off ∙ ap (λ v. of_place q (f v)) same ∙ all_of q (f q) (at q)
        ∙ ap (λ c. if c then f q else []) (sym on)
    by false h =
        let same : nat_lt q k ≡ nat_lt q (suc k) = less_too (nat_lt q k) refl h in
        ap (λ v. (if nat_lt q k then f q else []) ++ v) (none_of k q (f k) (at k) h)
        ∙ append-nil (if nat_lt q k then f q else []) ∙ ap (λ c. if c then f q else []) same
      where
        less_too : (c : Bool) → nat_lt q k ≡ c → (k == q) ≡ false → nat_lt q k ≡ nat_lt q (suc k)
        less_too true g h = let n : nat_lt q (suc k) ≡ true = grind (arith, nat_tests, g) in g ∙ sym n
        less_too false g h = let n : nat_lt q (suc k) ≡ false = grind (arith, nat_tests, g, h) in g ∙ sym n

-- later edges are at the same place
pub later_at : (p : ℕ) (es fs : List Edge) → AreLater es fs → AreAt p es → AreAt p fs
later_at p [] [] later at = tt
later_at p [] (f ∷ fs) later at = absurd later
later_at p (e ∷ es) [] later at = absurd later
later_at p (e ∷ es) (f ∷ fs) later at = (later.0.place ∙ at.0, later_at p es fs later.1 at.1)

-- those of a place's edges that pass a test are of that place
pub filter_at : (p : ℕ) (q : Edge → Bool) (es : List Edge) → AreAt p es → AreAt p (filter q es)
filter_at p q [] at = tt
filter_at p q (e ∷ es) at = by (q e) (filter_at p q es at.1)
  where
    by : (b : Bool) → AreAt p (filter q es) → AreAt p (if b then e ∷ filter q es else filter q es)
    by true rest = (at.0, rest)
    by false rest = rest

-- the last change of a place is the last of its edges
last_at : (p q : ℕ) (es : List Edge) (before : Bool) → AreAt q es
    → last_change (map change_of es) p before ≡ (if q == p then last_of before es else before)
last_at p q [] before at = either (q == p)
  where
    either : (c : Bool) → before ≡ (if c then before else before)
    either true = refl
    either false = refl
last_at p q (e ∷ es) before at =
    ap (λ v. last_change (map change_of es) p (if v == p then e.down else before)) at.0
    ∙ last_at p q es (if q == p then e.down else before) at.1 ∙ pick (q == p)
  where
    pick : (c : Bool)
        → (if c then last_of (if c then e.down else before) es else (if c then e.down else before))
        ≡ (if c then last_of e.down es else before)
    pick true = refl
    pick false = refl

-- after the edges of each place, place by place, a key is as its own last edge says
pub last_of_each : (p : ℕ) (f : ℕ → List Edge) → ((q : ℕ) → AreAt q (f q)) → (before : Bool) (k : ℕ)
    → last_change (map change_of (by_place f k)) p before ≡ (if nat_lt p k then last_of before (f p) else before)
last_of_each p f at before zero =
    let off : nat_lt p 0 ≡ false = grind (arith, nat_tests) in ap (λ c. if c then last_of before (f p) else before) (sym off)
last_of_each p f at before (suc k) =
    ap (λ v. last_change v p before) (map-append change_of (by_place f k) (f k))
    ∙ last_more (map change_of (by_place f k)) (map change_of (f k)) p before
    ∙ ap (λ b. last_change (map change_of (f k)) p b) (last_of_each p f at before k)
    ∙ last_at p k (f k) (if nat_lt p k then last_of before (f p) else before) (at k)
    ∙ by (k == p) refl
  where
    by : (b : Bool) → (k == p) ≡ b
        → (if b then last_of (if nat_lt p k then last_of before (f p) else before) (f k)
        else (if nat_lt p k then last_of before (f p) else before))
        ≡ (if nat_lt p (suc k) then last_of before (f p) else before)
    by true h =
        let same : k ≡ p = eqb-true k p h in
        let off : nat_lt p k ≡ false = grind (arith, nat_tests, same) in
        let on : nat_lt p (suc k) ≡ true = grind (arith, nat_tests, same) in
        ap (λ c. last_of (if c then last_of before (f p) else before) (f k)) off ∙ ap (λ v. last_of before (f v)) same
        ∙ ap (λ c. if c then last_of before (f p) else before) (sym on)
    by false h =
        ap (λ c. if c then last_of before (f p) else before) (less_too (nat_lt p k) refl h)
      where
        less_too : (c : Bool) → nat_lt p k ≡ c → (k == p) ≡ false → nat_lt p k ≡ nat_lt p (suc k)
        less_too true g h = let n : nat_lt p (suc k) ≡ true = grind (arith, nat_tests, g) in g ∙ sym n
        less_too false g h = let n : nat_lt p (suc k) ≡ false = grind (arith, nat_tests, g, h) in g ∙ sym n
