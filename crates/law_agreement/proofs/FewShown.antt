-- Ticks show few keys that changed, where the edges that they may see are thin: each key that changed has an edge between
-- the two reads of its column.
use Rattle.std.proofs.Common.{◌≡◌, ◌≤◌, ◌<◌, ℕ, suc, zero, ◌+◌, ◌*◌, ◌/◌, Bool, true, false, not, ◌&&◌, List, [], ◌∷◌}
use Rattle.std.proofs.Common.{length, refl, ap, sym, ◌∙◌, subst, arith}
use Rattle.std.specs.Prelude.{nat_le, nat_lt}
use Rattle.std.specs.List.{filter}
use Rattle.std.proofs.lemmas.Bool.Decides.{nat_tests}
use Rattle.std.proofs.lemmas.List.{length-append}
use Rattle.bits.proofs.Every.{and-left, and-right}
use Rattle.board_terms.proofs.Shown.{skip, keep}
use Rattle.board_terms.specs.declared.event.Edge.{Edge}
use Rattle.board_terms.specs.Edges.{of_place, last_of, AreInOrder}
use Rattle.board_terms.specs.Laws.{ArePlaces}
use Rattle.key_file.specs.Accepted.{IsThin}
use Rattle.model_link.proofs.Edges.{are_at, filter_same}
use Rattle.model_link.proofs.Few.{no_longer, four}
use Rattle.model_link.specs.TickEdges.{by_place, change_at, shown, shown_at}
use Rattle.law_agreement.specs.AnyStart.{ShowsFew, ThinShowsFew, columns_at, edges_from}

-- a place has one change at most
one_change : (p : ℕ) (a b : Bool) → length (change_at p a b) ≤ 1
one_change p true true = omega arith
one_change p true false = omega arith
one_change p false true = omega arith
one_change p false false = omega arith

no_change : (p : ℕ) (a b : Bool) → a ≡ b → length (change_at p a b) ≤ 0
no_change p true true e = omega arith
no_change p true false e = absurd cc
no_change p false true e = absurd cc
no_change p false false e = omega arith

-- lists of places are no longer than others, where each place's is
sum_most : {X Y : Type 0} (f : ℕ → List X) (g : ℕ → List Y) (k : ℕ)
    → ((p : ℕ) → p < k → length (f p) ≤ length (g p)) → length (by_place f k) ≤ length (by_place g k)
sum_most f g zero h = omega arith
sum_most f g (suc k) h =
    let a = length-append (by_place f k) (f k) in
    let b = length-append (by_place g k) (g k) in
    let below = sum_most f g k (λ p l. h p (omega (arith, l))) in
    let here = h k (omega arith) in
    omega (arith, a, b, below, here)

-- what holds of the elements of a part is found in the whole
found_in : {X : Type 0} (q r : X → Bool) → ((x : X) → q x ≡ true → r x ≡ true) → (xs : List X)
    → filter q xs ≡ filter q (filter r xs)
found_in q r h [] = refl
found_in q r h (x ∷ xs) =
    elim (r x) as (λ b. r x ≡ b → filter q (x ∷ xs) ≡ filter q (filter r (x ∷ xs))) [
      | true ↦ λ is.
          let rest = found_in q r h xs in
          let all : filter q (filter r (x ∷ xs)) ≡ filter q (x ∷ filter r xs) = ap (filter q) (keep r x xs is) in
          (elim (q x) as (λ b. q x ≡ b → filter q (x ∷ xs) ≡ filter q (x ∷ filter r xs)) [
            | true ↦ λ e. keep q x xs e ∙ ap (λ v. x ∷ v) rest ∙ sym (keep q x (filter r xs) e)
            | false ↦ λ e. skip q x xs e ∙ rest ∙ sym (skip q x (filter r xs) e)
          ] refl) ∙ sym all
      | false ↦ λ is.
          let none : q x ≡ false =
          elim (q x) as (λ b. q x ≡ b → b ≡ false) [
            | true ↦ λ e. let both : true ≡ false = sym (h x e) ∙ is in absurd cc
            | false ↦ λ e. refl
          ] refl in
          skip q x xs none ∙ found_in q r h xs ∙ ap (filter q) (sym (skip r x xs is))
    ] refl

-- some of the edges have places, where all have
part_placed : (r : Edge → Bool) (es : List Edge) → ArePlaces es → ArePlaces (filter r es)
part_placed r [] h = tt
part_placed r (e ∷ es) h =
    elim (r e) as (λ b. r e ≡ b → ArePlaces (filter r (e ∷ es))) [
      | true ↦ λ is. subst (λ v. ArePlaces v) (sym (keep r e es is)) (h.0, part_placed r es h.1)
      | false ↦ λ is. subst (λ v. ArePlaces v) (sym (skip r e es is)) (part_placed r es h.1)
    ] refl

-- a key at one place, between two reads of its column
module _ (pa pb : Edge → Bool) (sub : (e : Edge) → pa e ≡ true → pb e ≡ true) where
  abbrev win : Edge → Bool
  win e = pb e && not (pa e)

  -- without an edge between them both find the same edges
  same_found : (es : List Edge) → filter win es ≡ [] → filter pa es ≡ filter pb es
  same_found [] h = refl
  same_found (e ∷ es) h =
      elim (pa e) as (λ b. pa e ≡ b → filter pa (e ∷ es) ≡ filter pb (e ∷ es)) [
        | true ↦ λ a.
            let b : pb e ≡ true = sub e a in
            let w : win e ≡ false = ap (λ c. c && not (pa e)) b ∙ ap not a in
            keep pa e es a ∙ ap (λ v. e ∷ v) (same_found es (sym (skip win e es w) ∙ h)) ∙ sym (keep pb e es b)
        | false ↦ λ a. elim (pb e) as (λ b. pb e ≡ b → filter pa (e ∷ es) ≡ filter pb (e ∷ es)) [
          | true ↦ λ b.
              let w : win e ≡ true = ap (λ c. c && not (pa e)) b ∙ ap not a in
              let some : e ∷ filter win es ≡ [] = sym (keep win e es w) ∙ h in
              absurd cc
          | false ↦ λ b.
              let w : win e ≡ false = ap (λ c. c && not (pa e)) b in
              skip pa e es a ∙ same_found es (sym (skip win e es w) ∙ h) ∙ sym (skip pb e es b)
        ] refl
      ] refl

  -- so it changed only where it has one
  place_most : (p : ℕ) (before : Bool) (es : List Edge)
      → length (change_at p (last_of before (filter pa es)) (last_of before (filter pb es))) ≤ length (filter win es)
  place_most p before es =
      elim (filter win es) as (λ (v : List Edge). filter win es ≡ v
      → length (change_at p (last_of before (filter pa es)) (last_of before (filter pb es))) ≤ length v) [
        | [] ↦ λ h. no_change p (last_of before (filter pa es)) (last_of before (filter pb es))
            (ap (last_of before) (same_found es h))
        | x ∷ xs ↦ λ h.
            let l = one_change p (last_of before (filter pa es)) (last_of before (filter pb es)) in omega (arith, l)
      ] refl

-- no edge is read before the first tick
none_read : (es : List Edge) → last_of false (filter (λ e. false) es) ≡ false
none_read [] = refl
none_read (e ∷ es) = none_read es

module _ (edges : List Edge) (n : ℕ) (placed : ArePlaces edges) (order : AreInOrder (edges_from n edges))
    (thin : IsThin (edges_from n edges)) where
  -- the edges that a test of less than 2,240 cycles finds, all among those that the ticks may see, are at most four
  few_found : (q : Edge → Bool) (base : ℕ) → ((e : Edge) → q e ≡ true → base ≤ e.stamp)
      → ((e : Edge) → e.place < 96 → q e ≡ true → e.stamp < base + 2240)
      → filter q edges ≡ filter q (edges_from n edges) → ArePlaces (edges_from n edges) → length (filter q edges) ≤ 4
  few_found q base above under same at =
      let most : length (filter q (edges_from n edges)) ≤ 4 =
      four q base above under (edges_from n edges) order thin at in
      subst (λ v. length v ≤ 4) (sym same) most

-- the reads of a place's column before and in a tick
abbrev read_by : ℕ → ℕ → Edge → Bool
read_by start p e = nat_le e.stamp (start + 16 + 16 * (p / 8))

abbrev read_in : ℕ → ℕ → Edge → Bool
read_in before now e = read_by now e.place e && not (read_by before e.place e)

-- a tick after another
later_few : (edges : List Edge) (n before now base : ℕ) → ArePlaces edges → AreInOrder (edges_from n edges)
    → IsThin (edges_from n edges) → ArePlaces (edges_from n edges)
    → before ≤ now → base ≡ before + 16 → now ≤ before + 2049
    → filter (read_in before now) edges ≡ filter (read_in before now) (edges_from n edges)
    → length (shown (columns_at edges before) (columns_at edges now)) ≤ 4
later_few edges n before now base placed order thin at up is room same =
    let q : Edge → Bool = read_in before now in
    let above : (e : Edge) → q e ≡ true → base ≤ e.stamp = λ e h.
    let k : not (read_by before e.place e) ≡ true = and-right (read_by now e.place e) (not (read_by before e.place e)) h in
    let o : before + 16 + 16 * (e.place / 8) < e.stamp = grind (arith, nat_tests, k) in omega (arith, o, is) in
    let under : (e : Edge) → e.place < 96 → q e ≡ true → e.stamp < base + 2240 = λ e l h.
    let k : read_by now e.place e ≡ true = and-left (read_by now e.place e) (not (read_by before e.place e)) h in
    let o : e.stamp ≤ now + 16 + 16 * (e.place / 8) = grind (arith, nat_tests, k) in omega (arith, o, l, is, room) in
    let found : length (filter q edges) ≤ 4 = few_found edges n placed order thin q base above under same at in
    let parted : length (by_place (λ p. filter q (of_place p edges)) 96) ≤ length (filter q edges) =
    no_longer q edges 96 in
    let each : (p : ℕ) → p < 96
    → length (shown_at (columns_at edges before) (columns_at edges now) p) ≤ length (filter q (of_place p edges)) =
    λ p l.
    let pa : Edge → Bool = read_by before p in
    let pb : Edge → Bool = read_by now p in
    let sub : (e : Edge) → pa e ≡ true → pb e ≡ true = λ e h. grind (arith, nat_tests, h, up) in
    subst (λ (v : List Edge). length (shown_at (columns_at edges before) (columns_at edges now) p) ≤ length v)
    (filter_same p (λ e. pb e && not (pa e)) q
    (λ e at. ap (λ k. read_by now k e && not (read_by before k e)) (sym at))
    (of_place p edges) (are_at p edges))
    (place_most pa pb sub p false (of_place p edges)) in
    let most : length (shown (columns_at edges before) (columns_at edges now))
    ≤ length (by_place (λ p. filter q (of_place p edges)) 96) =
    sum_most (shown_at (columns_at edges before) (columns_at edges now)) (λ p. filter q (of_place p edges)) 96 each in
    omega (arith, most, parted, found)

-- the first tick
first_few : (edges : List Edge) (now : ℕ) → ArePlaces edges → AreInOrder edges → IsThin edges → now ≤ 1
    → length (shown (λ place. false) (columns_at edges now)) ≤ 4
first_few edges now placed order thin soon =
    let q : Edge → Bool = λ e. read_by now e.place e in
    let above : (e : Edge) → q e ≡ true → 0 ≤ e.stamp = λ e h. omega arith in
    let under : (e : Edge) → e.place < 96 → q e ≡ true → e.stamp < 0 + 2240 = λ e l h.
    let o : e.stamp ≤ now + 16 + 16 * (e.place / 8) = grind (arith, nat_tests, h) in omega (arith, o, l, soon) in
    let found : length (filter q edges) ≤ 4 = four q 0 above under edges order thin placed in
    let parted : length (by_place (λ p. filter q (of_place p edges)) 96) ≤ length (filter q edges) =
    no_longer q edges 96 in
    let each : (p : ℕ) → p < 96
    → length (shown_at (λ place. false) (columns_at edges now) p) ≤ length (filter q (of_place p edges)) = λ p l.
    let pb : Edge → Bool = read_by now p in
    let es : List Edge = of_place p edges in
    let win : Edge → Bool = λ e. pb e && true in
    let most : length (change_at p (last_of false (filter (λ e. false) es)) (last_of false (filter pb es)))
    ≤ length (filter win es) = place_most (λ e. false) pb (λ e h. absurd cc) p false es in
    let start : length (change_at p false (last_of false (filter pb es))) ≤ length (filter win es) =
    subst (λ b. length (change_at p b (last_of false (filter pb es))) ≤ length (filter win es)) (none_read es) most in
    subst (λ (v : List Edge). length (shown_at (λ place. false) (columns_at edges now) p) ≤ length v)
    (filter_same p win q
    (λ e at. and_true (pb e) ∙ ap (λ k. read_by now k e) (sym at)) es (are_at p edges)) start in
    let most : length (shown (λ place. false) (columns_at edges now))
    ≤ length (by_place (λ p. filter q (of_place p edges)) 96) =
    sum_most (shown_at (λ place. false) (columns_at edges now)) (λ p. filter q (of_place p edges)) 96 each in
    omega (arith, most, parted, found)
  where
    and_true : (b : Bool) → (b && true) ≡ b
    and_true true = refl
    and_true false = refl

-- if of any five edges in a row the last is at least 2,240 cycles later than the first, each tick shows few changes
pub thin_shows_few : ThinShowsFew
thin_shows_few edges zero placed order thin k =
    let same : k ≡ 0 + k = omega arith in subst (λ j. ShowsFew edges j) same (by k)
  where
    by : (k : ℕ) → ShowsFew edges k
    by zero = λ now is.
        let soon : now ≤ 2048 * 0 + 1 = is.most in
        first_few edges now placed order thin (omega (arith, soon))
    by (suc k) = λ before now was is.
        let a : 2048 * k ≤ before = was.least in
        let b : before ≤ 2048 * k + 1 = was.most in
        let c : 2048 * suc k ≤ now = is.least in
        let d : now ≤ 2048 * suc k + 1 = is.most in
        later_few edges 0 before now (before + 16) placed order thin placed (omega (arith, b, c)) refl
        (omega (arith, a, d)) refl
thin_shows_few edges (suc n) placed order thin k =
    let same : suc (n + k) ≡ suc n + k = omega arith in subst (λ j. ShowsFew edges j) same by
  where
    by : ShowsFew edges (suc (n + k))
    by = λ before now was is.
        let a : 2048 * (n + k) ≤ before = was.least in
        let b : before ≤ 2048 * (n + k) + 1 = was.most in
        let c : 2048 * suc (n + k) ≤ now = is.least in
        let d : now ≤ 2048 * suc (n + k) + 1 = is.most in
        let r : Edge → Bool = λ e. nat_lt (2048 * n + 16) e.stamp in
        later_few edges (suc n) before now (before + 16) placed order thin (part_placed r edges placed) (omega (arith, b, c)) refl
        (omega (arith, a, d))
        (found_in (read_in before now) r
        (λ e h.
        let k : not (read_by before e.place e) ≡ true = and-right (read_by now e.place e) (not (read_by before e.place e)) h in
        let o : before + 16 + 16 * (e.place / 8) < e.stamp = grind (arith, nat_tests, k) in
        let far : 2048 * n + 16 < e.stamp = omega (arith, o, a) in
        grind (arith, nat_tests, far)) edges)
