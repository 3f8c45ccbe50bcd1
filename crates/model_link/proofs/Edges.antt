-- What the columns show is the tick's edges.
use Rattle.std.proofs.Common.{◌≡◌, ℕ, suc, zero, ◌+◌, ◌≤◌, ◌<◌, List, [], ◌∷◌, ◌++◌, map, Bool, true}
use Rattle.std.proofs.Common.{false, not, ◌&&◌, ◌==◌, refl, ap, sym, ◌∙◌, subst, arith}
use Rattle.std.specs.Prelude.{if◌then◌else◌}
use Rattle.std.specs.List.{filter}
use Rattle.std.proofs.lemmas.Bool.{eqb-true}
use Rattle.std.proofs.lemmas.List.{map-append}
use Rattle.model_link.specs.TickEdges.{none_before, by_place, change_of, change_at, shown_at}
use Rattle.key_file.specs.Accepted.{Alternates, Dwells}
use Rattle.board_terms.specs.declared.event.Edge.{Edge}
use Rattle.board_terms.specs.Edges.{of_place, last_of}
use Rattle.board_terms.proofs.Shown.{skip, keep}
use Rattle.model_link.specs.Laws.{RisesFrom}

abbrev pub AreAt : ℕ → List Edge → Type 0
AreAt p [] = Unit {0}
AreAt p (e ∷ es) = (e.place ≡ p) × AreAt p es

-- the edges of a place are at that place
pub are_at : (p : ℕ) (edges : List Edge) → AreAt p (of_place p edges)
are_at p [] = tt
are_at p (e ∷ es) =
    elim (e.place == p) as (λ b. (e.place == p) ≡ b → AreAt p (of_place p (e ∷ es))) [
      | true ↦ λ h. subst (λ v. AreAt p v) (sym (keep (λ (x : Edge). x.place == p) e es h)) (eqb-true e.place p h, are_at p es)
      | false ↦ λ h. subst (λ v. AreAt p v) (sym (skip (λ (x : Edge). x.place == p) e es h)) (are_at p es)
    ] refl

-- tests that say the same of every edge of a place leave the same edges of it
pub filter_same : (p : ℕ) (q r : Edge → Bool) → ((e : Edge) → e.place ≡ p → q e ≡ r e) → (es : List Edge) → AreAt p es
    → filter q es ≡ filter r es
filter_same p q r h [] at = refl
filter_same p q r h (e ∷ es) at =
    ap (λ c. if c then e ∷ filter q es else filter q es) (h e at.0) ∙ ap (λ v. if r e then e ∷ v else v) (filter_same p q r h es at.1)

-- the key at one place: an edge in the window is the only one, and turns its state
module _ (pa pb : Edge → Bool) (sub : (e : Edge) → pb e ≡ false → pa e ≡ false)
    (far : (e f : Edge) → pa e ≡ false → e.stamp + 2240 ≤ f.stamp → pb f ≡ false) where
  abbrev win : Edge → Bool
  win e = pb e && not (pa e)

  pub record Nothing (es : List Edge) : Type 0 where
    pub a : filter pa es ≡ []
    pub b : filter pb es ≡ []
    pub w : filter win es ≡ []

  none : (e : Edge) (es : List Edge) → pa e ≡ false → Dwells (e ∷ es) → Nothing es
  none e [] h d = record { a = refl; b = refl; w = refl }
  none e (f ∷ fs) h d =
      let fb : pb f ≡ false = far e f h d.0 in
      let fa : pa f ≡ false = sub f fb in
      let more : Nothing fs = none f fs fa d.1 in
      record {
        a = skip pa f fs fa ∙ more.a;
        b = skip pb f fs fb ∙ more.b;
        w = skip win f fs (ap (λ c. c && not (pa f)) fb) ∙ more.w;
      }

  stays_so : (p : ℕ) (before : Bool) → [] ≡ change_at p before before
  stays_so p true = refl
  stays_so p false = refl

  turns : (p : ℕ) (before : Bool) → (p, not before) ∷ [] ≡ change_at p before (not before)
  turns p true = refl
  turns p false = refl

  tail_dwells : (e : Edge) (es : List Edge) → Dwells (e ∷ es) → Dwells es
  tail_dwells e [] d = tt
  tail_dwells e (f ∷ fs) d = d.1

  -- the edge of a place in the window, of which there is one at most, is the change that the column shows
  pub one : (p : ℕ) (before : Bool) (es : List Edge) → AreAt p es → Alternates before es → Dwells es
      → map change_of (filter win es) ≡ change_at p (last_of before (filter pa es)) (last_of before (filter pb es))
  one p before [] at alt d = stays_so p before
  one p before (e ∷ es) at alt d =
      elim (pa e) as (λ c. pa e ≡ c
      → map change_of (filter win (e ∷ es)) ≡ change_at p (last_of before (filter pa (e ∷ es))) (last_of before (filter pb (e ∷ es)))) [
        | true ↦ λ h. elim (pb e) as (λ c. pb e ≡ c
            → map change_of (filter win (e ∷ es))
            ≡ change_at p (last_of before (filter pa (e ∷ es))) (last_of before (filter pb (e ∷ es)))) [
              | true ↦ λ g.
                  ap (λ v. map change_of v) (skip win e es (ap (λ c. c && not (pa e)) g ∙ ap not h))
                  ∙ one p e.down es at.1 alt.1 (tail_dwells e es d)
                  ∙ ap (λ v. change_at p (last_of before v) (last_of e.down (filter pb es))) (sym (keep pa e es h))
                  ∙ ap (λ v. change_at p (last_of before (filter pa (e ∷ es))) (last_of before v)) (sym (keep pb e es g))
              | false ↦ λ g. let k : pa e ≡ false = sub e g in absurd (cc (h, k))
            ] refl
        | false ↦ λ h.
            let rest : Nothing es = none e es h d in
            let a : filter pa (e ∷ es) ≡ [] = skip pa e es h ∙ rest.a in
            elim (pb e) as (λ c. pb e ≡ c
            → map change_of (filter win (e ∷ es))
            ≡ change_at p (last_of before (filter pa (e ∷ es))) (last_of before (filter pb (e ∷ es)))) [
              | true ↦ λ g.
                  let b : filter pb (e ∷ es) ≡ e ∷ [] = keep pb e es g ∙ ap (λ v. e ∷ v) rest.b in
                  let w : filter win (e ∷ es) ≡ e ∷ [] = keep win e es (ap (λ c. c && not (pa e)) g ∙ ap not h) ∙ ap (λ v. e ∷ v) rest.w in
                  ap (λ v. map change_of v) w ∙ ap (λ (q : ℕ). (q, e.down) ∷ []) at.0 ∙ ap (λ (v : Bool). (p, v) ∷ []) alt.0
                  ∙ turns p before ∙ ap (λ v. change_at p before v) (sym alt.0)
                  ∙ ap (λ v. change_at p (last_of before v) e.down) (sym a)
                  ∙ ap (λ v. change_at p (last_of before (filter pa (e ∷ es))) (last_of before v)) (sym b)
              | false ↦ λ g.
                  let b : filter pb (e ∷ es) ≡ [] = skip pb e es g ∙ rest.b in
                  let w : filter win (e ∷ es) ≡ [] = skip win e es (ap (λ c. c && not (pa e)) g) ∙ rest.w in
                  ap (λ v. map change_of v) w ∙ stays_so p before
                  ∙ ap (λ v. change_at p (last_of before v) before) (sym a)
                  ∙ ap (λ v. change_at p (last_of before (filter pa (e ∷ es))) (last_of before v)) (sym b)
            ] refl
      ] refl

-- places one after the other
pub map_by_place : {X Y : Type 0} (h : X → Y) (f : ℕ → List X) (k : ℕ) → map h (by_place f k) ≡ by_place (λ p. map h (f p)) k
map_by_place h f zero = refl
map_by_place h f (suc k) = map-append h (by_place f k) (f k) ∙ ap (λ v. v ++ map h (f k)) (map_by_place h f k)

-- functions that say the same of each of the 96 places give the same list by place
pub same_by_place : {X : Type 0} (f g : ℕ → List X) → ((p : ℕ) → p < 96 → f p ≡ g p) → (k : ℕ) → k ≤ 96 → by_place f k ≡ by_place g k
same_by_place f g h zero l = refl
same_by_place f g h (suc k) l =
    ap (λ v. v ++ f k) (same_by_place f g h k (omega (arith, l))) ∙ ap (λ v. by_place g k ++ v) (h k (omega (arith, l)))

-- the least tick, where a read that isn't too early stays so
least_so : (p : ℕ → Bool) (n : ℕ) → ((j : ℕ) → j < n → p (suc j) ≡ false → p j ≡ false) → p n ≡ false → none_before p n ≡ true
least_so p zero up h = refl
least_so p (suc n) up h =
    let g : p n ≡ false = up n (omega arith) h in
    ap (λ c. not c && none_before p n) g ∙ least_so p n (λ j l. up j (omega (arith, l))) g

-- if a property stays once it holds, none of the numbers up to n has it exactly if n hasn't
pub least_or : (p : ℕ → Bool) (n : ℕ) → ((j : ℕ) → j < n → p (suc j) ≡ false → p j ≡ false) → none_before p (suc n) ≡ not (p n)
least_or p n up =
    elim (p n) as (λ c. p n ≡ c → none_before p (suc n) ≡ not (p n)) [
      | true ↦ λ h. ap (λ c. not c && none_before p n) h ∙ ap not (sym h)
      | false ↦ λ h. ap (λ c. not c && none_before p n) h ∙ least_so p n up h ∙ ap not (sym h)
    ] refl

-- the least length of a rising list of places
abbrev AreBelow : ℕ → List (ℕ × Bool) → Type 0
AreBelow k [] = Unit {0}
AreBelow k (c ∷ cs) = (c.0 < k) × AreBelow k cs

below_more : (k : ℕ) (xs ys : List (ℕ × Bool)) → AreBelow k xs → AreBelow (suc k) ys → AreBelow (suc k) (xs ++ ys)
below_more k [] ys h g = g
below_more k (x ∷ xs) ys h g = (omega (arith, h.0), below_more k xs ys h.1 g)

rises_less : (from k : ℕ) (ys : List (ℕ × Bool)) → from ≤ k → RisesFrom k ys → RisesFrom from ys
rises_less from k [] l h = tt
rises_less from k (y ∷ ys) l h = (omega (arith, l, h.0), h.1)

rises_more : (from k : ℕ) (xs ys : List (ℕ × Bool)) → from ≤ k → RisesFrom from xs → AreBelow k xs → RisesFrom k ys
    → RisesFrom from (xs ++ ys)
rises_more from k [] ys l h b g = rises_less from k ys l g
rises_more from k (x ∷ xs) ys l h b g = (h.0, rises_more (suc x.0) k xs ys (omega (arith, b.0)) h.1 b.1 g)

change_below : (k : ℕ) (a b : Bool) → AreBelow (suc k) (change_at k a b)
change_below k true true = tt
change_below k true false = (omega arith, tt)
change_below k false true = (omega arith, tt)
change_below k false false = tt

change_rises : (k : ℕ) (a b : Bool) → RisesFrom k (change_at k a b)
change_rises k true true = tt
change_rises k true false = (omega arith, tt)
change_rises k false true = (omega arith, tt)
change_rises k false false = tt

-- the changes that the columns show are by rising place, and below the end
pub shown_rises : (held now : ℕ → Bool) (k : ℕ) → (RisesFrom 0 (by_place (shown_at held now) k))
    × (AreBelow k (by_place (shown_at held now) k))
shown_rises held now zero = (tt, tt)
shown_rises held now (suc k) =
    let h = shown_rises held now k in (
      rises_more 0 k (by_place (shown_at held now) k) (shown_at held now k) (omega arith) h.0 h.1 (change_rises k (held k) (now k)),
      below_more k (by_place (shown_at held now) k) (shown_at held now k) h.1 (change_below k (held k) (now k)),
    )
