-- What the edges of a tick make of each key is what its column shows then, however a contact bounces.
use Rattle.std.proofs.Common.{◌≡◌, ◌≤◌, ◌<◌, ℕ, suc, zero, not, ◌&&◌, Bool, true, false, List, [], ◌∷◌, refl, ap, sym, ◌∙◌, arith}
use Rattle.std.specs.Prelude.{if◌then◌else◌, nat_lt}
use Rattle.std.specs.List.{filter}
use Rattle.std.proofs.lemmas.Bool.Decides.{nat_tests}
use Rattle.board_terms.proofs.Shown.{skip, keep, tail_in_order}
use Rattle.board_terms.specs.Cadence.{KeepsCadence, KeepsCadenceTo}
use Rattle.board_terms.specs.Edges.{of_place, last_of, AreInOrder}
use Rattle.board_terms.specs.declared.event.Edge.{Edge}
use Rattle.model_link.proofs.Edges.{are_at, filter_same}
use Rattle.model_link.proofs.Few.{downs_so, in_time, read_before, read_now, seen_so}
use Rattle.model_link.proofs.Seen.{last_change}
use Rattle.model_link.specs.TickEdges.{downs_before, downs_in, is_seen, tick_edges}
use Rattle.law_keys_settle.proofs.Placed.{filter_at, last_of_each}

-- edges in their order, of which the first have a property, and more of the first another
module _ (pa pb : Edge → Bool) (sub : (e : Edge) → pb e ≡ false → pa e ≡ false)
    (ends : (e f : Edge) → e.stamp ≤ f.stamp → pa e ≡ false → pa f ≡ false) where
  abbrev win : Edge → Bool
  win e = pb e && not (pa e)

  won : (e : Edge) (es : List Edge) → pa e ≡ false → filter pb es ≡ filter win es → filter pb (e ∷ es) ≡ filter win (e ∷ es)
  won e es off rest =
      ap (λ v. if pb e then e ∷ v else v) rest
      ∙ ap (λ c. if c then e ∷ filter win es else filter win es) (sym (ap (λ c. pb e && not c) off ∙ and_true (pb e)))
    where
      and_true : (b : Bool) → (b && true) ≡ b
      and_true true = refl
      and_true false = refl

  none_left : (e : Edge) (es : List Edge) → AreInOrder (e ∷ es) → pa e ≡ false
      → (filter pa es ≡ []) × (filter pb es ≡ filter win es)
  none_left e [] order off = (refl, refl)
  none_left e (f ∷ fs) order off =
      let off_too : pa f ≡ false = ends e f order.0 off in
      let rest = none_left f fs order.1 off_too in
      (skip pa f fs off_too ∙ rest.0, won f fs off_too rest.1)

  split : (before : Bool) (es : List Edge) → AreInOrder es
      → last_of before (filter pb es) ≡ last_of (last_of before (filter pa es)) (filter win es)
  split before [] order = refl
  split before (e ∷ es) order = by (pa e) refl (pb e) refl (split e.down es (tail_in_order e es order))
    where
      by : (a : Bool) → pa e ≡ a → (b : Bool) → pb e ≡ b
          → last_of e.down (filter pb es) ≡ last_of (last_of e.down (filter pa es)) (filter win es)
          → last_of before (filter pb (e ∷ es)) ≡ last_of (last_of before (filter pa (e ∷ es))) (filter win (e ∷ es))
      by true h true g rest =
          ap (last_of before) (keep pb e es g) ∙ rest
          ∙ ap (λ v. last_of (last_of before v) (filter win es)) (sym (keep pa e es h))
          ∙ ap (λ v. last_of (last_of before (filter pa (e ∷ es))) v)
          (sym (skip win e es (ap (λ c. c && not (pa e)) g ∙ ap not h)))
      by true h false g rest = let off : true ≡ false = sym h ∙ sub e g in absurd cc
      by false h b g rest =
          let none = none_left e es order h in
          let first : filter pa (e ∷ es) ≡ [] = skip pa e es h ∙ none.0 in
          ap (last_of before) (won e es h none.1) ∙ ap (λ v. last_of (last_of before v) (filter win (e ∷ es))) (sym first)

module _ (starts : ℕ → ℕ) (cadence : KeepsCadence starts) where
  abbrev to : (n : ℕ) → KeepsCadenceTo starts n
  to n = λ m l. cadence m

  sub_at : (p n : ℕ) (e : Edge) → read_now starts n (to n) p n e ≡ false → read_before starts n (to n) p n e ≡ false
  sub_at p zero e h = refl
  sub_at p (suc m) e h = in_time starts (suc m) (to (suc m)) e.stamp p m (omega arith) h

  ends_at : (p n : ℕ) (e f : Edge) → e.stamp ≤ f.stamp → read_before starts n (to n) p n e ≡ false
      → read_before starts n (to n) p n f ≡ false
  ends_at p zero e f l h = refl
  ends_at p (suc m) e f l h = grind (arith, nat_tests, l, h)

  -- after the edges of a tick each key is as its column shows, however it bounces
  pub readings : (edges : List Edge) → ((place : ℕ) → AreInOrder (of_place place edges)) → (n p : ℕ) → p < 96
      → last_change (tick_edges starts edges n) p (downs_before starts edges n p) ≡ downs_in starts edges n p
  readings edges order n p l =
      let own : List Edge = of_place p edges in
      let pa : Edge → Bool = read_before starts n (to n) p n in
      let pb : Edge → Bool = read_now starts n (to n) p n in
      let before : Bool = downs_before starts edges n p in
      let on : nat_lt p 96 ≡ true = grind (arith, nat_tests, l) in
      last_of_each p (λ q. filter (is_seen starts n) (of_place q edges))
      (λ q. filter_at q (is_seen starts n) (of_place q edges) (are_at q edges)) before 96
      ∙ ap (λ c. if c then last_of before (filter (is_seen starts n) own) else before) on
      ∙ ap (last_of before)
      (filter_same p (is_seen starts n) (λ e. pb e && not (pa e))
      (λ e at. seen_so starts n (to n) n (omega arith) e
      ∙ ap (λ r. read_now starts n (to n) r n e && not (read_before starts n (to n) r n e)) at) own (are_at p edges))
      ∙ ap (λ b. last_of b (filter (λ e. pb e && not (pa e)) own)) (sym (downs_so starts n (to n) edges n p))
      ∙ sym (split pa pb (sub_at p n) (ends_at p n) false own (order p))
