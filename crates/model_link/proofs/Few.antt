-- At most four edges in a tick, and all together.
use Rattle.std.proofs.Common.{◌≡◌, ℕ, suc, zero, ◌+◌, ◌*◌, ◌/◌, ◌≤◌, ◌<◌, List, [], ◌∷◌, ◌++◌, length, map}
use Rattle.std.proofs.Common.{Bool, true, false, not, ◌&&◌, ◌==◌, refl, ap, sym, ◌∙◌, subst, arith}
use Rattle.std.specs.Prelude.{if◌then◌else◌, nat_le, nat_lt}
use Rattle.std.specs.List.{filter}
use Rattle.std.proofs.lemmas.Bool.Decides.{nat_tests}
use Rattle.std.proofs.lemmas.List.{length-append, length-map}
use Rattle.model_link.specs.TickEdges.{read_at, is_seen, by_place, change_of, tick_edges}
use Rattle.model_link.specs.TickEdges.{change_at, shown_at, shown, downs_in, downs_before}
use Rattle.key_file.specs.Histories.{KeyHistory}
use Rattle.key_file.specs.Accepted.{Alternates, Dwells, IsThin, IsFifthLater, IsLawful}
use Rattle.board_terms.specs.declared.event.Edge.{Edge}
use Rattle.board_terms.specs.Edges.{of_place, last_of, AreInOrder}
use Rattle.board_terms.specs.Laws.{ArePlaces}
use Rattle.board_terms.specs.Cadence.{KeepsCadenceTo}
use Rattle.model_link.specs.Laws.{RisesFrom, Shows, EdgesShown}
use Rattle.bits.proofs.Every.{and-left, and-right}
use Rattle.board_terms.proofs.Shown.{skip, keep}
use Rattle.model_link.proofs.Edges.{one, are_at, filter_same, map_by_place, same_by_place, least_or, shown_rises}

-- one or none
abbrev digit : Bool → ℕ
digit b = if b then 1 else 0

counts : {X : Type 0} (q : X → Bool) (x : X) (xs : List X) → length (filter q (x ∷ xs)) ≡ digit (q x) + length (filter q xs)
counts q x xs =
    elim (q x) as (λ c. q x ≡ c → length (filter q (x ∷ xs)) ≡ digit (q x) + length (filter q xs)) [
      | true ↦ λ h. let k : length (filter q (x ∷ xs)) ≡ length (x ∷ filter q xs) = ap length (keep q x xs h) in
          let d : digit (q x) ≡ 1 = ap digit h in omega (arith, k, d)
      | false ↦ λ h. let k : length (filter q (x ∷ xs)) ≡ length (filter q xs) = ap length (skip q x xs h) in
          let d : digit (q x) ≡ 0 = ap digit h in omega (arith, k, d)
    ] refl

digit_most : (b : Bool) → digit b ≤ 1
digit_most true = omega arith
digit_most false = omega arith

-- parted by place, a list is no longer
module _ (q : Edge → Bool) where
  abbrev parted : List Edge → ℕ → List Edge
  parted edges k = by_place (λ p. filter q (of_place p edges)) k

  nothing_parted : (k : ℕ) → length (parted [] k) ≡ 0
  nothing_parted zero = refl
  nothing_parted (suc k) = let h : length (parted [] k ++ [])
      ≡ length (parted [] k) + 0 = length-append (parted [] k) [] in let g = nothing_parted k in omega (arith, h, g)

  -- a place's part grows where the edge is of this place
  grows : (e : Edge) (es : List Edge) (p : ℕ)
      → length (filter q (of_place p (e ∷ es))) ≤ (if e.place == p then digit (q e) else 0) + length (filter q (of_place p es))
  grows e es p =
      elim (e.place == p) as (λ c. (e.place == p) ≡ c
      → length (filter q (of_place p (e ∷ es))) ≤ (if c then digit (q e) else 0) + length (filter q (of_place p es))) [
        | true ↦ λ h. let k : length (filter q (of_place p (e ∷ es)))
            ≡ length (filter q (e ∷ of_place p es)) =
            ap (λ v. length (filter q v)) (keep (λ (x : Edge). x.place == p) e es h) in
            let c = counts q e (of_place p es) in omega (arith, k, c)
        | false ↦ λ h. let k : length (filter q (of_place p (e ∷ es)))
            ≡ length (filter q (of_place p es)) =
            ap (λ v. length (filter q v)) (skip (λ (x : Edge). x.place == p) e es h) in omega (arith, k)
      ] refl

  hit : (e : Edge) (k : ℕ) (d : ℕ)
      → (if nat_lt e.place k then d else 0) + (if e.place == k then d else 0) ≤ (if nat_lt e.place (suc k) then d else 0)
  hit e k d =
      elim (nat_lt e.place k) as (λ a. nat_lt e.place k ≡ a
      → (if a then d else 0) + (if e.place == k then d else 0) ≤ (if nat_lt e.place (suc k) then d else 0)) [
        | true ↦ λ h.
            let s : nat_lt e.place (suc k) ≡ true = grind (arith, nat_tests, h) in
            let n : (e.place == k) ≡ false = grind (arith, nat_tests, h) in
            subst (λ b. d + (if e.place == k then d else 0) ≤ (if b then d else 0)) (sym s)
            (subst (λ b. d + (if b then d else 0) ≤ d) (sym n) (omega arith))
        | false ↦ λ h. elim (e.place == k) as (λ a. (e.place == k) ≡ a
            → 0 + (if a then d else 0) ≤ (if nat_lt e.place (suc k) then d else 0)) [
              | true ↦ λ g. let s : nat_lt e.place (suc k) ≡ true = grind (arith, nat_tests, g) in
                  subst (λ b. 0 + d ≤ (if b then d else 0)) (sym s) (omega arith)
              | false ↦ λ g. omega arith
            ] refl
      ] refl

  parted_more : (e : Edge) (es : List Edge) (k : ℕ)
      → length (parted (e ∷ es) k) ≤ (if nat_lt e.place k then digit (q e) else 0) + length (parted es k)
  parted_more e es zero = omega arith
  parted_more e es (suc k) =
      let a : length (parted (e ∷ es) k ++ filter q (of_place k (e ∷ es)))
      ≡ length (parted (e ∷ es) k) + length (filter q (of_place k (e ∷ es))) =
      length-append (parted (e ∷ es) k) (filter q (of_place k (e ∷ es))) in
      let b : length (parted es k ++ filter q (of_place k es))
      ≡ length (parted es k) + length (filter q (of_place k es)) = length-append (parted es k) (filter q (of_place k es)) in
      let ih = parted_more e es k in
      let g = grows e es k in
      let h = hit e k (digit (q e)) in
      omega (arith, a, b, ih, g, h)

  if_less : (c : Bool) (d : ℕ) → (if c then d else 0) ≤ d
  if_less true d = omega arith
  if_less false d = omega arith

  -- what passes a test of the edges of each place is no more than what passes it of all
  pub no_longer : (edges : List Edge) (k : ℕ) → length (parted edges k) ≤ length (filter q edges)
  no_longer [] k = let h = nothing_parted k in omega (arith, h)
  no_longer (e ∷ es) k =
      let a = parted_more e es k in
      let b = no_longer es k in
      let c = counts q e es in
      let d = if_less (nat_lt e.place k) (digit (q e)) in
      omega (arith, a, b, c, d)

  -- edges within less than 2,240 cycles are at most four
  module _ (base : ℕ) (above : (e : Edge) → q e ≡ true → base ≤ e.stamp)
      (under : (e : Edge) → e.place < 96 → q e ≡ true → e.stamp < base + 2240) where
    off : (e : Edge) → e.place < 96 → base + 2240 ≤ e.stamp → q e ≡ false
    off e at l = elim (q e) as (λ c. q e ≡ c → q e ≡ false) [
      | true ↦ λ h. let u = under e at h in absurd (omega (arith, u, l))
      | false ↦ λ h. h
    ] refl

    late : (es : List Edge) (e : Edge) → AreInOrder (e ∷ es) → ArePlaces (e ∷ es) → base + 2240 ≤ e.stamp → length (filter q (e ∷ es)) ≡ 0
    late [] e r ps l = ap length (skip q e [] (off e ps.0 l))
    late (f ∷ fs) e r ps l = ap length (skip q e (f ∷ fs) (off e ps.0 l)) ∙ late fs f r.1 ps.1 (let u = r.0 in omega (arith, u, l))

    tail_rises : (e : Edge) (es : List Edge) → AreInOrder (e ∷ es) → AreInOrder es
    tail_rises e [] r = tt
    tail_rises e (f ∷ fs) r = r.1

    at_most : (x : Edge) (xs : List Edge) → length (filter q (x ∷ xs)) ≤ 1 + length (filter q xs)
    at_most x xs = let c = counts q x xs in let d = digit_most (q x) in omega (arith, c, d)

    -- after the first of them three more at most
    three : (a : Edge) (es : List Edge) → base ≤ a.stamp → AreInOrder es → ArePlaces es → IsFifthLater a es → length (filter q es) ≤ 3
    three a [] l r ps t = omega arith
    three a (b ∷ []) l r ps t = let x = at_most b [] in omega (arith, x)
    three a (b ∷ c ∷ []) l r ps t = let x = at_most b (c ∷ []) in let y = at_most c [] in omega (arith, x, y)
    three a (b ∷ c ∷ d ∷ []) l r ps t = let x = at_most b (c ∷ d ∷ []) in let y = at_most c (d ∷ []) in
        let z = at_most d [] in omega (arith, x, y, z)
    three a (b ∷ c ∷ d ∷ e ∷ es) l r ps t =
        let x = at_most b (c ∷ d ∷ e ∷ es) in
        let y = at_most c (d ∷ e ∷ es) in
        let z = at_most d (e ∷ es) in
        let n = late es e r.1.1.1 ps.1.1.1 (omega (arith, l, t)) in
        omega (arith, x, y, z, n)

    -- at most four edges come within less than 2,240 cycles
    pub four : (edges : List Edge) → AreInOrder edges → IsThin edges → ArePlaces edges → length (filter q edges) ≤ 4
    four [] r t ps = omega arith
    four (e ∷ es) r t ps =
        elim (q e) as (λ c. q e ≡ c → length (filter q (e ∷ es)) ≤ 4) [
          | true ↦ λ h.
              let x = at_most e es in
              let y = three e es (above e h) (tail_rises e es r) ps.1 t.0 in
              omega (arith, x, y)
          | false ↦ λ h. subst (λ v. length v ≤ 4) (sym (skip q e es h)) (four es (tail_rises e es r) t.1 ps.1)
        ] refl

nothing : (es : List Edge) → last_of false (filter (λ e. false) es) ≡ false
nothing [] = refl
nothing (e ∷ es) = nothing es

module _ (starts : ℕ → ℕ) (last : ℕ) (cadence : KeepsCadenceTo starts last) where
  -- a read that is in time stays so
  pub in_time : (stamp place j : ℕ) → j < last → nat_le stamp (read_at starts place (suc j)) ≡ false
      → nat_le stamp (read_at starts place j) ≡ false
  in_time stamp place j b h =
      let a = (cadence j (omega (arith, b))).most in
      let c = (cadence (suc j) (omega (arith, b))).least in
      let l : starts j ≤ starts (suc j) = omega (arith, a, c) in
      grind (arith, nat_tests, h, l)

  -- whether an edge had been read before a tick
  abbrev pub read_before : ℕ → ℕ → Edge → Bool
  read_before p zero e = false
  read_before p (suc m) e = nat_le e.stamp (read_at starts p m)

  abbrev pub read_now : ℕ → ℕ → Edge → Bool
  read_now p n e = nat_le e.stamp (read_at starts p n)

  -- a tick sees an edge exactly if its read finds it and the one before didn't
  pub seen_so : (n : ℕ) → n ≤ last → (e : Edge) → is_seen starts n e ≡ (read_now e.place n e && not (read_before e.place n e))
  seen_so zero b e = refl
  seen_so (suc m) b e =
      ap (λ c. read_now e.place (suc m) e && c)
      (least_or (λ j. nat_le e.stamp (read_at starts e.place j)) m (λ j l h. in_time e.stamp e.place j (omega (arith, b, l)) h))

  -- the last edge that was read before a tick says whether a key was down
  pub downs_so : (edges : List Edge) (n p : ℕ) → last_of false (filter (read_before p n) (of_place p edges)) ≡ downs_before starts edges n p
  downs_so edges zero p = nothing (of_place p edges)
  downs_so edges (suc m) p = refl

  sub : (p n : ℕ) → n ≤ last → (e : Edge) → read_now p n e ≡ false → read_before p n e ≡ false
  sub p zero b e h = refl
  sub p (suc m) b e h = in_time e.stamp p m (omega (arith, b)) h

  far : (p n : ℕ) → n ≤ last → p < 96 → (e f : Edge) → read_before p n e ≡ false → e.stamp + 2240 ≤ f.stamp → read_now p n f ≡ false
  far p zero c l e f h d =
      let b = (cadence 0 c).most in
      let s : starts 0 + 16 + 16 * (p / 8) < f.stamp = omega (arith, b, l, d) in
      grind (arith, nat_tests, s)
  far p (suc m) c l e f h d =
      let a = (cadence m (omega (arith, c))).least in
      let b = (cadence (suc m) c).most in
      let o : starts m + 16 + 16 * (p / 8) < e.stamp = grind (arith, nat_tests, h) in
      let s : starts (suc m) + 16 + 16 * (p / 8) < f.stamp = omega (arith, a, b, o, d) in
      grind (arith, nat_tests, s)

  base : ℕ → ℕ
  base zero = 0
  base (suc m) = starts m + 16

  above : (n : ℕ) → n ≤ last → (e : Edge) → is_seen starts n e ≡ true → base n ≤ e.stamp
  unfolding base
  above zero b e h = omega arith
  above (suc m) b e h =
      let g : (read_now e.place (suc m) e && not (read_before e.place (suc m) e)) ≡ true = sym (seen_so (suc m) b e) ∙ h in
      let k : not (read_before e.place (suc m) e) ≡ true = and-right (read_now e.place (suc m) e) (not (read_before e.place (suc m) e)) g in
      let o : starts m + 16 + 16 * (e.place / 8) < e.stamp = grind (arith, nat_tests, k) in
      omega (arith, o)

  within : (n : ℕ) → n ≤ last → (e : Edge) → e.place < 96 → e.stamp ≤ starts n + 16 + 16 * (e.place / 8) → e.stamp < base n + 2240
  unfolding base
  within zero c e l o = let b = (cadence 0 c).most in omega (arith, b, l, o)
  within (suc m) c e l o =
      let a = (cadence m (omega (arith, c))).least in
      let b = (cadence (suc m) c).most in
      omega (arith, a, b, l, o)

  under : (n : ℕ) → n ≤ last → (e : Edge) → e.place < 96 → is_seen starts n e ≡ true → e.stamp < base n + 2240
  unfolding base
  under n c e l h =
      let g : (read_now e.place n e && not (read_before e.place n e)) ≡ true = sym (seen_so n c e) ∙ h in
      let k : nat_le e.stamp (read_at starts e.place n) ≡ true = and-left (read_now e.place n e) (not (read_before e.place n e)) g in
      let o : e.stamp ≤ starts n + 16 + 16 * (e.place / 8) = grind (arith, nat_tests, k) in
      within n c e l o

  -- what the columns show against the keys held before is what a tick sees, if the edges of a key turn it and have their time
  pub shown_same : (edges : List Edge) (n : ℕ) → n ≤ last
      → ((place : ℕ) → place < 96 → Alternates false (of_place place edges))
      → ((place : ℕ) → place < 96 → Dwells (of_place place edges))
      → tick_edges starts edges n ≡ shown (downs_before starts edges n) (downs_in starts edges n)
  shown_same edges n b alternate dwell =
      let held : ℕ → Bool = downs_before starts edges n in
      let now : ℕ → Bool = downs_in starts edges n in
      let each : ℕ → List Edge = λ p. filter (is_seen starts n) (of_place p edges) in
      let at_place : (p : ℕ) → p < 96 → map change_of (each p) ≡ shown_at held now p = λ p l.
      ap (λ v. map change_of v) (filter_same p (is_seen starts n) (λ e. read_now p n e && not (read_before p n e))
      (λ e at. seen_so n b e ∙ ap (λ r. read_now r n e && not (read_before r n e)) at) (of_place p edges) (are_at p edges))
      ∙ one (read_before p n) (read_now p n) (sub p n b) (far p n b l) p false (of_place p edges) (are_at p edges)
      (alternate p l) (dwell p l)
      ∙ ap (λ v. change_at p v (now p)) (downs_so edges n p) in
      map_by_place change_of each 96
      ∙ same_by_place (λ p. map change_of (each p)) (shown_at held now) at_place 96 (omega arith)

  -- the columns of each tick show the tick's edges, of a lawful history under the cadence
  pub shows : (history : KeyHistory) (n : ℕ) → n ≤ last → IsLawful history → Shows starts history.edges n
  shows history n b ok =
      let edges : List Edge = history.edges in
      let same : tick_edges starts edges n ≡ shown (downs_before starts edges n) (downs_in starts edges n) =
      shown_same edges n b (λ place l. ok.alternate place) (λ place l. ok.dwell place) in
      let each : ℕ → List Edge = λ p. filter (is_seen starts n) (of_place p edges) in
      let a : length (tick_edges starts edges n) ≡ length (by_place each 96) = length-map (by_place each 96) change_of in
      let c = no_longer (is_seen starts n) edges 96 in
      let d = four (is_seen starts n) (base n) (above n b) (under n b) edges ok.edges_in_order ok.thin ok.in_matrix in
      record {
        same = same;
        few = omega (arith, a, c, d);
        rising = subst (λ v. RisesFrom 0 v) (sym same)
            (shown_rises (downs_before starts edges n) (downs_in starts edges n) 96).0;
      }

-- the columns of each tick show the tick's edges: at most four, of different places
pub edges_are_shown : EdgesShown
edges_are_shown starts history n ok cadence = shows starts n cadence history n (omega arith) ok
