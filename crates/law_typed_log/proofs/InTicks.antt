-- Which edges of a text's strokes a tick sees.
use Rattle.std.proofs.Common.{◌≡◌, ℕ, suc, zero, ◌+◌, ◌*◌, ◌≤◌, ◌<◌, List, [], ◌∷◌, ◌++◌, append-nil}
use Rattle.std.proofs.Common.{Bool, false, ◌==◌, cond, Some, refl, ap, sym, ◌∙◌, subst, arith}
use Rattle.std.specs.Prelude.{slice_get}
use Rattle.std.specs.List.{filter}
use Rattle.std.proofs.lemmas.Bool.Decides.{nat_tests}
use Rattle.std.proofs.lemmas.List.Elements.{filter-append}
use Rattle.board_terms.specs.declared.event.Edge.{Edge}
use Rattle.layout_reader.specs.declared.entry.Entry.{Entry}
use Rattle.model_link.specs.TickEdges.{is_seen}
use Rattle.law_quiet_log.specs.Quiet.{even}
use Rattle.law_typed_log.specs.Typing.{Stroke, Plain, Shifted, stroke_start, presses, releases, edges_of, edges_from}
use Rattle.law_typed_log.proofs.Struck.{Fits, AllFit}
use Rattle.law_typed_log.proofs.TickOf.{seen_is}

-- a stroke's edges by the tick, from the stroke's first on, in which they are seen
abbrev pub seen_by : (ℕ → Bool) → ℕ → Stroke → List Edge
seen_by t start (Plain key) =
    let last : List Edge = cond (t 5) (releases key (start + 10240) ∷ []) [] in
    cond (t 0) (presses key start ∷ last) last
seen_by t start (Shifted shift key) =
    let last : List Edge = cond (t 5) (releases shift (start + 10240) ∷ []) [] in
    let third : List Edge = cond (t 4) (releases key (start + 8192) ∷ last) last in
    let second : List Edge = cond (t 1) (presses key (start + 2048) ∷ third) third in
    cond (t 0) (presses shift start ∷ second) second

filter_first : (f : Edge → Bool) (a : Bool) (e : Edge) (es rest : List Edge) → f e ≡ a → filter f es ≡ rest
    → filter f (e ∷ es) ≡ cond a (e ∷ rest) rest
filter_first f a e es rest h g =
    ap (λ b. cond b (e ∷ filter f es) (filter f es)) h ∙ ap (λ v. cond a (e ∷ v) v) g

module _ (es : List Entry) (n : ℕ) where
  -- tick n is one of a stroke's, by this test
  abbrev IsTickOf : ℕ → (ℕ → Bool) → Type 0
  IsTickOf k t = (o : ℕ) → o < 10 → (n == suc (79 + 10 * k + o)) ≡ t o

  one_seen : (k o : ℕ) (t : ℕ → Bool) (e : Edge) → IsTickOf k t → o < 10 → e.place < 96
      → e.stamp ≡ stroke_start k + 2048 * o → is_seen even n e ≡ t o
  one_seen k o t e h u l at = seen_is n (79 + 10 * k + o) e l (omega (arith, at)) ∙ h o u

  seen_in_stroke : (k : ℕ) (t : ℕ → Bool) (s : Stroke) → IsTickOf k t → Fits es s
      → filter (is_seen even n) (edges_of (stroke_start k) s) ≡ seen_by t (stroke_start k) s
  seen_in_stroke k t (Plain key) h fit =
      let start : ℕ = stroke_start k in
      let one : Edge = presses key start in
      let two : Edge = releases key (start + 10240) in
      filter_first (is_seen even n) (t 0) one (two ∷ []) (cond (t 5) (two ∷ []) [])
      (one_seen k 0 t one h (omega arith) fit.in_matrix (omega arith))
      (filter_first (is_seen even n) (t 5) two [] []
      (one_seen k 5 t two h (omega arith) fit.in_matrix (omega arith)) refl)
  seen_in_stroke k t (Shifted shift key) h fit =
      let start : ℕ = stroke_start k in
      let one : Edge = presses shift start in
      let two : Edge = presses key (start + 2048) in
      let three : Edge = releases key (start + 8192) in
      let four : Edge = releases shift (start + 10240) in
      let last : List Edge = cond (t 5) (four ∷ []) [] in
      let third : List Edge = cond (t 4) (three ∷ last) last in
      let second : List Edge = cond (t 1) (two ∷ third) third in
      filter_first (is_seen even n) (t 0) one (two ∷ three ∷ four ∷ []) second
      (one_seen k 0 t one h (omega arith) fit.of_first.in_matrix (omega arith))
      (filter_first (is_seen even n) (t 1) two (three ∷ four ∷ []) third
      (one_seen k 1 t two h (omega arith) fit.of_second.in_matrix (omega arith))
      (filter_first (is_seen even n) (t 4) three (four ∷ []) last
      (one_seen k 4 t three h (omega arith) fit.of_second.in_matrix (omega arith))
      (filter_first (is_seen even n) (t 5) four [] []
      (one_seen k 5 t four h (omega arith) fit.of_first.in_matrix (omega arith)) refl)))

  none_of : (start : ℕ) (s : Stroke) → seen_by (λ o. false) start s ≡ []
  none_of start (Plain key) = refl
  none_of start (Shifted shift key) = refl

  -- a tick that isn't one of a stroke's sees none of its edges
  none_seen : (k : ℕ) (s : Stroke) → Fits es s → IsTickOf k (λ o. false)
      → filter (is_seen even n) (edges_of (stroke_start k) s) ≡ []
  none_seen k s fit h = seen_in_stroke k (λ o. false) s h fit ∙ none_of (stroke_start k) s

  -- before the first stroke
  pub seen_before : (k : ℕ) (ss : List Stroke) → AllFit es ss → n < 80 + 10 * k
      → filter (is_seen even n) (edges_from k ss) ≡ []
  seen_before k [] fit l = refl
  seen_before k (s ∷ ss) fit l =
      filter-append (is_seen even n) (edges_of (stroke_start k) s) (edges_from (suc k) ss)
      ∙ ap (λ v. v ++ filter (is_seen even n) (edges_from (suc k) ss))
      (none_seen k s fit.0 (λ o u. grind (arith, nat_tests, l)))
      ∙ seen_before (suc k) ss fit.1 (omega (arith, l))

  -- in the ticks of a stroke
  pub seen_at : (k m i : ℕ) (ss : List Stroke) (s : Stroke) (t : ℕ → Bool) → AllFit es ss → m ≡ i + k
      → slice_get ss i ≡ Some s
      → 80 + 10 * m ≤ n → n < 90 + 10 * m → IsTickOf m t
      → filter (is_seen even n) (edges_from k ss) ≡ seen_by t (stroke_start m) s
  seen_at k m i [] s t fit z is lo hi h = absurd cc
  seen_at k m zero (s' ∷ ss) s t fit z is lo hi h =
      let e : s' ≡ s = cc in
      let y : k ≡ m = omega (arith, z) in
      let h' : IsTickOf k t = subst (λ v. IsTickOf v t) (sym y) h in
      filter-append (is_seen even n) (edges_of (stroke_start k) s') (edges_from (suc k) ss)
      ∙ ap (λ v. filter (is_seen even n) (edges_of (stroke_start k) s') ++ v)
      (seen_before (suc k) ss fit.1 (omega (arith, hi, y)))
      ∙ append-nil (filter (is_seen even n) (edges_of (stroke_start k) s'))
      ∙ seen_in_stroke k t s' h' fit.0
      ∙ ap (λ v. seen_by t (stroke_start v) s') y ∙ ap (λ v. seen_by t (stroke_start m) v) e
  seen_at k m (suc i) (s' ∷ ss) s t fit z is lo hi h =
      let y : suc k ≤ m = omega (arith, z) in
      let g : 90 + 10 * k ≤ n = omega (arith, y, lo) in
      filter-append (is_seen even n) (edges_of (stroke_start k) s') (edges_from (suc k) ss)
      ∙ ap (λ v. v ++ filter (is_seen even n) (edges_from (suc k) ss))
      (none_seen k s' fit.0 (λ o u. grind (arith, nat_tests, g, u)))
      ∙ seen_at (suc k) m i ss s t fit.1 (omega (arith, z)) is lo hi h
