-- The edges before and after a window aren't seen.
use Rattle.std.proofs.Common.{◌≡◌, ℕ, suc, zero, ◌+◌, ◌*◌, ◌/◌, ◌≤◌, ◌<◌, List, [], ◌∷◌, ◌++◌, length, map, take, drop, get_or}
use Rattle.std.proofs.Common.{Bool, true, false, not, ◌&&◌, ◌==◌, Some, refl, ap, sym, ◌∙◌, subst, arith, add-one, ◌-◌}
use Rattle.std.specs.Prelude.{if◌then◌else◌, nat_le}
use Rattle.std.specs.List.{filter}
use Rattle.std.specs.declared.option.Option.{Option}
use Rattle.std.proofs.lemmas.Bool.Decides.{nat_tests}
use Rattle.std.proofs.lemmas.Bool.{eqb-true}
use Rattle.std.proofs.lemmas.List.{take-append-drop, get_or-take, get_or-drop, length-take}
use Rattle.std.proofs.lemmas.List.{length-drop, append_assoc, append-nil, map-append}
use Rattle.std.proofs.lemmas.List.Elements.{filter-append}
use Rattle.std.proofs.Math.Seq.{take-suc}
use Rattle.board_terms.specs.declared.event.Edge.{Edge}
use Rattle.board_terms.specs.Edges.{of_place, AreInOrder}
use Rattle.board_terms.specs.Cadence.{KeepsCadenceTo}
use Rattle.model_link.specs.TickEdges.{is_seen, by_place, change_of, tick_edges}
use Rattle.model_link.specs.Seeing.{start_before, is_read_from, sees, HasSeen}
use Rattle.board_terms.proofs.Shown.{skip, keep}
use Rattle.model_link.proofs.Edges.{are_at, filter_same, same_by_place}
use Rattle.model_link.proofs.Few.{seen_so}

-- the stamps of a list in order don't fall
head_least : (e : Edge) (es : List Edge) → AreInOrder (e ∷ es) → (j : ℕ) (d : Edge) → j < length (e ∷ es)
    → e.stamp ≤ (get_or (e ∷ es) j d).stamp
head_least e es h zero d l = omega arith
head_least e [] h (suc j) d l = absurd (omega (arith, l))
head_least e (f ∷ fs) h (suc j) d l =
    let k = head_least f fs h.1 j d (omega (arith, l)) in
    let a = h.0 in
    omega (arith, k, a)

tail_order : (e : Edge) (es : List Edge) → AreInOrder (e ∷ es) → AreInOrder es
tail_order e [] h = tt
tail_order e (f ∷ fs) h = h.1

-- of edges in order a later one has no earlier stamp
pub in_order : (es : List Edge) → AreInOrder es → (i j : ℕ) (d : Edge) → i ≤ j → j < length es
    → (get_or es i d).stamp ≤ (get_or es j d).stamp
in_order [] h i j d l m = absurd (omega (arith, m))
in_order (e ∷ es) h zero j d l m = head_least e es h j d m
in_order (e ∷ es) h (suc i) zero d l m = absurd (omega (arith, l))
in_order (e ∷ es) h (suc i) (suc j) d l m = in_order es (tail_order e es h) i j d (omega (arith, l)) (omega (arith, m))

-- what is seen of a place, among edges none of which is seen
module _ (q : Edge → Bool) (p : ℕ) where
  -- if no edge of a place is seen, none is among those seen of it
  pub nothing_seen : (es : List Edge)
      → ((k : ℕ) (d : Edge) → k < length es → (get_or es k d).place ≡ p → q (get_or es k d) ≡ false) → filter q (of_place p es) ≡ []
  nothing_seen [] h = refl
  nothing_seen (e ∷ es) h =
      let rest : filter q (of_place p es) ≡ [] = nothing_seen es (λ k d l at. h (suc k) d (omega (arith, l)) at) in
      elim (e.place == p) as (λ b. (e.place == p) ≡ b → filter q (of_place p (e ∷ es)) ≡ []) [
        | true ↦ λ g.
            let at : e.place ≡ p = eqb-true e.place p g in
            let off : q e ≡ false = h 0 e (omega arith) at in
            ap (λ v. filter q v) (keep (λ (x : Edge). x.place == p) e es g) ∙ skip q e (of_place p es) off ∙ rest
        | false ↦ λ g. ap (λ v. filter q v) (skip (λ (x : Edge). x.place == p) e es g) ∙ rest
      ] refl

  -- what is seen of two lists is what is seen of the one and then of the other
  pub seen_apart : (xs ys : List Edge) → filter q (of_place p (xs ++ ys)) ≡ filter q (of_place p xs) ++ filter q (of_place p ys)
  seen_apart xs ys =
      ap (λ v. filter q v) (filter-append (λ (e : Edge). e.place == p) xs ys) ∙ filter-append q (of_place p xs) (of_place p ys)

-- the edges before a window were read by the tick before, and those after it aren't read by this one
module _ (before : Option ℕ) (now : ℕ) (es : List Edge) (lo hi : ℕ) (le : lo ≤ hi) (within : hi ≤ length es)
    (read : (k : ℕ) (d : Edge) → k < lo → is_read_from before (get_or es k d) ≡ true)
    (late : (k : ℕ) (d : Edge) → hi ≤ k → k < length es → nat_le (get_or es k d).stamp (now + 192) ≡ false) where
  and_not : (a b : Bool) → b ≡ true → (a && not b) ≡ false
  and_not true b h = ap not h
  and_not false b h = refl

  unseen_before : (e : Edge) → is_read_from before e ≡ true → sees before now e ≡ false
  unseen_before e h = and_not (is_read_from (Some now) e) (is_read_from before e) h

  unseen_after : (p : ℕ) → p < 96 → (e : Edge) → e.place ≡ p → nat_le e.stamp (now + 192) ≡ false → sees before now e ≡ false
  unseen_after p l e at h =
      let n : nat_le e.stamp (now + 16 + 16 * (e.place / 8)) ≡ false = afterwards e.stamp e.place (subst (λ k. k < 96) (sym at) l) h in
      ap (λ c. c && not (is_read_from before e)) n
    where
      afterwards : (stamp place : ℕ) → place < 96 → nat_le stamp (now + 192) ≡ false → nat_le stamp (now + 16 + 16 * (place / 8)) ≡ false
      afterwards stamp place l h =
          let a : now + 192 < stamp = grind (arith, nat_tests, h) in
          let b : now + 16 + 16 * (place / 8) < stamp = omega (arith, a, l) in
          grind (arith, nat_tests, b)

  -- the edges of a window have all those that the tick sees
  pub window_has : HasSeen before now (take (hi - lo) (drop lo es)) es
  window_has p l =
      let q : Edge → Bool = sees before now in
      let rest : List Edge = drop lo es in
      let mid : List Edge = take (hi - lo) rest in
      let first : filter q (of_place p (take lo es)) ≡ [] = nothing_seen q p (take lo es) (λ k d u at.
      let v : k < lo = omega (arith, length-take lo es, u) in
      unseen_before (get_or (take lo es) k d) (ap (λ e. is_read_from before e) (get_or-take lo es k d v) ∙ read k d v)) in
      let last : filter q (of_place p (drop (hi - lo) rest)) ≡ [] = nothing_seen q p (drop (hi - lo) rest) (λ k d u at.
      let i : get_or (drop (hi - lo) rest) k d ≡ get_or es (lo + (hi - lo + k)) d =
      get_or-drop (hi - lo) rest k d ∙ get_or-drop lo es (hi - lo + k) d in
      let a = length-drop (hi - lo) rest in
      let b = length-drop lo es in
      unseen_after p l (get_or (drop (hi - lo) rest) k d) at
      (ap (λ (e : Edge). nat_le e.stamp (now + 192)) i ∙ late (lo + (hi - lo + k)) d (omega (arith, le)) (omega (arith, le, a, b, u)))) in
      let cut : filter q (of_place p rest) ≡ filter q (of_place p mid) =
      ap (λ v. filter q (of_place p v)) (sym (take-append-drop (hi - lo) rest)) ∙ seen_apart q p mid (drop (hi - lo) rest)
      ∙ ap (λ v. filter q (of_place p mid) ++ v) last ∙ append-nil (filter q (of_place p mid)) in
      sym (ap (λ v. filter q (of_place p v)) (sym (take-append-drop lo es)) ∙ seen_apart q p (take lo es) rest
      ∙ ap (λ v. v ++ filter q (of_place p rest)) first ∙ cut)

-- one edge more
module _ (q : Edge → Bool) (p : ℕ) where
  two : (e : Edge) (b : Bool) → map change_of (if b then e ∷ [] else []) ≡ (if b then change_of e ∷ [] else [])
  two e true = refl
  two e false = refl

  one_of : (e : Edge) (a : Bool) → map change_of (filter q (if a then e ∷ [] else [])) ≡ (if a && q e then change_of e ∷ [] else [])
  one_of e true = two e (q e)
  one_of e false = refl

  -- one edge more of a place is seen if it is at the place and seen
  pub seen_next : (es : List Edge) (i : ℕ) (e : Edge) (s0 before after : List (ℕ × Bool)) → i < length es → e ≡ get_or es i e
      → before ≡ s0 ++ map change_of (filter q (of_place p (take i es)))
      → after ≡ before ++ (if (e.place == p) && q e then change_of e ∷ [] else [])
      → after ≡ s0 ++ map change_of (filter q (of_place p (take (i + 1) es)))
  seen_next es i e s0 before after within is so_far next =
      let t : take (i + 1) es
      ≡ take i es ++ e ∷ [] = rw add-one (take-suc es i e within ∙ ap (λ (v : Edge). take i es ++ v ∷ []) (sym is)) in
      let f : List (ℕ × Bool) = map change_of (filter q (of_place p (take i es))) in
      let o : List (ℕ × Bool) = if (e.place == p) && q e then change_of e ∷ [] else [] in
      next ∙ ap (λ v. v ++ o) so_far ∙ append_assoc s0 f o ∙ ap (λ v. s0 ++ v)
      (ap (λ v. f ++ v) (sym (one_of e (e.place == p)))
      ∙ sym (map-append change_of (filter q (of_place p (take i es))) (filter q (of_place p (e ∷ []))))
      ∙ ap (λ v. map change_of v) (sym (seen_apart q p (take i es) (e ∷ [])))
      ∙ ap (λ v. map change_of (filter q (of_place p v))) (sym t))

-- what the program judges by is what sees the edge
pub sees_so : (starts : ℕ → ℕ) (n : ℕ) → KeepsCadenceTo starts n → (e : Edge)
    → is_seen starts n e ≡ sees (start_before starts n) (starts n) e
sees_so starts zero cadence e = seen_so starts 0 cadence 0 (omega arith) e
sees_so starts (suc n) cadence e = seen_so starts (suc n) cadence (suc n) (omega arith) e

-- some of the edges give a tick's edges, if they have all those that the tick sees
pub tick_edges_so : (starts : ℕ → ℕ) (n : ℕ) (edges some : List Edge) → KeepsCadenceTo starts n
    → HasSeen (start_before starts n) (starts n) some edges
    → map change_of (by_place (λ p. filter (sees (start_before starts n) (starts n)) (of_place p some)) 96) ≡ tick_edges starts edges n
tick_edges_so starts n edges some cadence has =
    ap (λ v. map change_of v) (same_by_place
    (λ p. filter (sees (start_before starts n) (starts n)) (of_place p some))
    (λ p. filter (is_seen starts n) (of_place p edges))
    (λ p l. has p l ∙ sym
    (filter_same p (is_seen starts n) (sees (start_before starts n) (starts n))
    (λ e at. sees_so starts n cadence e) (of_place p edges) (are_at p edges)))
    96 (omega arith))

-- an edge before one up to a stamp is up to it too
pub no_later : (es : List Edge) → AreInOrder es → (stamp i j : ℕ) (d : Edge) → i ≤ j → j < length es
    → nat_le (get_or es j d).stamp stamp ≡ true → nat_le (get_or es i d).stamp stamp ≡ true
no_later es h stamp i j d l m up = let k = in_order es h i j d l m in grind (arith, nat_tests, k, up)
