-- What is taken of a key, tick after tick, are its edges in their order.
use Rattle.std.proofs.Common.{◌≡◌, ◌≤◌, ◌<◌, ℕ, suc, zero, ◌+◌, ◌==◌, ◌&&◌, not, Bool, true, false}
use Rattle.std.proofs.Common.{List, [], ◌∷◌, ◌++◌, length, map, take, refl, ap, sym, ◌∙◌, arith}
use Rattle.std.specs.Prelude.{if◌then◌else◌, nat_le, nat_lt}
use Rattle.std.specs.List.{filter}
use Rattle.std.proofs.lemmas.Bool.Decides.{nat_tests}
use Rattle.std.proofs.lemmas.List.{map-append}
use Rattle.std.proofs.lemmas.List.Elements.{filter-append}
use Rattle.board_terms.proofs.Shown.{skip, keep}
use Rattle.board_terms.specs.Cadence.{KeepsCadence, KeepsCadenceTo}
use Rattle.board_terms.specs.Edges.{of_place, AreInOrder}
use Rattle.board_terms.specs.declared.event.Edge.{Edge}
use Rattle.board_terms.specs.declared.event.HostEvent.{HostEvent}
use Rattle.layout_reader.specs.Layouts.{KeyLayout}
use Rattle.model_link.proofs.Edges.{are_at, filter_same}
use Rattle.model_link.proofs.Few.{in_time, read_before, read_now, seen_so}
use Rattle.model_link.specs.Laws.{taken_before}
use Rattle.model_link.specs.TickEdges.{by_place, change_of, is_seen, read_at, tick_edges}
use Rattle.law_keys_settle.proofs.Placed.{filter_at, of_each}
use Rattle.law_keys_settle.specs.Settling.{AreApart, AreLater, IsLater, distance, undebounced}
use Rattle.law_keys_settle.specs.Taking.{EdgesAreTakenOnce, TakesOnce, of_key}

-- edges of a key that come a little later are in order
later_in_order : (es fs : List Edge) → AreApart es → AreLater es fs → AreInOrder fs
later_in_order [] [] far later = tt
later_in_order [] (f ∷ fs) far later = absurd later
later_in_order (e ∷ es) [] far later = absurd later
later_in_order (e ∷ []) (f ∷ []) far later = tt
later_in_order (e ∷ []) (f ∷ g ∷ fs) far later = absurd later.1
later_in_order (e ∷ d ∷ es) (f ∷ []) far later = absurd later.1
later_in_order (e ∷ d ∷ es) (f ∷ g ∷ fs) far later =
    let apart : e.stamp + distance ≤ d.stamp = far.0 in
    let soon : f.stamp ≤ e.stamp + distance = later.0.soon in
    let after : d.stamp ≤ g.stamp = later.1.0.after in
    (omega (arith, apart, soon, after), later_in_order (d ∷ es) (g ∷ fs) far.1 later.1)

-- they make the same changes
same_changes : (k : ℕ) (es fs : List Edge) → AreLater es fs → map change_of (take k fs) ≡ map change_of (take k es)
same_changes zero es fs later = refl
same_changes (suc k) [] [] later = refl
same_changes (suc k) [] (f ∷ fs) later = absurd later
same_changes (suc k) (e ∷ es) [] later = absurd later
same_changes (suc k) (e ∷ es) (f ∷ fs) later =
    ap (λ p. (p, f.down) ∷ map change_of (take k fs)) later.0.place
    ∙ ap (λ b. (e.place, b) ∷ map change_of (take k fs)) later.0.down
    ∙ ap (λ v. (e.place, e.down) ∷ v) (same_changes k es fs later.1)

-- if each of some edges that has a property has another one later on, no more have the first
module _ (q r : Edge → Bool) where
  no_more : ((e f : Edge) → IsLater e f → q e ≡ true → r f ≡ true) → (es fs : List Edge) → AreLater es fs
      → length (filter q es) ≤ length (filter r fs)
  no_more has [] [] later = omega arith
  no_more has [] (f ∷ fs) later = absurd later
  no_more has (e ∷ es) [] later = absurd later
  no_more has (e ∷ es) (f ∷ fs) later = by (q e) refl (r f) refl (no_more has es fs later.1)
    where
      by : (a : Bool) → q e ≡ a → (b : Bool) → r f ≡ b → length (filter q es) ≤ length (filter r fs)
          → length (filter q (e ∷ es)) ≤ length (filter r (f ∷ fs))
      by true h true g rest =
          let x : length (filter q (e ∷ es)) ≡ length (e ∷ filter q es) = ap length (keep q e es h) in
          let y : length (filter r (f ∷ fs)) ≡ length (f ∷ filter r fs) = ap length (keep r f fs g) in
          omega (arith, x, y, rest)
      by true h false g rest = let both : true ≡ false = sym (has e f later.0 h) ∙ g in absurd cc
      by false h true g rest =
          let x : length (filter q (e ∷ es)) ≡ length (filter q es) = ap length (skip q e es h) in
          let y : length (filter r (f ∷ fs)) ≡ length (f ∷ filter r fs) = ap length (keep r f fs g) in
          omega (arith, x, y, rest)
      by false h false g rest =
          let x : length (filter q (e ∷ es)) ≡ length (filter q es) = ap length (skip q e es h) in
          let y : length (filter r (f ∷ fs)) ≡ length (filter r fs) = ap length (skip r f fs g) in
          omega (arith, x, y, rest)

  no_fewer : ((e f : Edge) → IsLater e f → r f ≡ true → q e ≡ true) → (es fs : List Edge) → AreLater es fs
      → length (filter r fs) ≤ length (filter q es)
  no_fewer has [] [] later = omega arith
  no_fewer has [] (f ∷ fs) later = absurd later
  no_fewer has (e ∷ es) [] later = absurd later
  no_fewer has (e ∷ es) (f ∷ fs) later = by (q e) refl (r f) refl (no_fewer has es fs later.1)
    where
      by : (a : Bool) → q e ≡ a → (b : Bool) → r f ≡ b → length (filter r fs) ≤ length (filter q es)
          → length (filter r (f ∷ fs)) ≤ length (filter q (e ∷ es))
      by true h true g rest =
          let x : length (filter q (e ∷ es)) ≡ length (e ∷ filter q es) = ap length (keep q e es h) in
          let y : length (filter r (f ∷ fs)) ≡ length (f ∷ filter r fs) = ap length (keep r f fs g) in
          omega (arith, x, y, rest)
      by true h false g rest =
          let x : length (filter q (e ∷ es)) ≡ length (e ∷ filter q es) = ap length (keep q e es h) in
          let y : length (filter r (f ∷ fs)) ≡ length (filter r fs) = ap length (skip r f fs g) in
          omega (arith, x, y, rest)
      by false h true g rest = let both : true ≡ false = sym (has e f later.0 g) ∙ h in absurd cc
      by false h false g rest =
          let x : length (filter q (e ∷ es)) ≡ length (filter q es) = ap length (skip q e es h) in
          let y : length (filter r (f ∷ fs)) ≡ length (filter r fs) = ap length (skip r f fs g) in
          omega (arith, x, y, rest)

-- edges in their order, of which the first have a property, and more of the first another
module _ (pa pb : Edge → Bool) (sub : (e : Edge) → pb e ≡ false → pa e ≡ false)
    (ends : (e f : Edge) → e.stamp ≤ f.stamp → pa e ≡ false → pa f ≡ false) where
  abbrev win : Edge → Bool
  win e = pb e && not (pa e)

  none_left : (e : Edge) (es : List Edge) → AreInOrder (e ∷ es) → pa e ≡ false → filter pa (e ∷ es) ≡ []
  none_left e [] order off = skip pa e [] off
  none_left e (f ∷ fs) order off =
      skip pa e (f ∷ fs) off ∙ none_left f fs order.1 (ends e f order.0 off)

  tail_order : (e : Edge) (es : List Edge) → AreInOrder (e ∷ es) → AreInOrder es
  tail_order e [] order = tt
  tail_order e (f ∷ fs) order = order.1

  -- those with the first are the first ones
  are_first : (es : List Edge) → AreInOrder es → filter pa es ≡ take (length (filter pa es)) es
  are_first [] order = refl
  are_first (e ∷ es) order = by (pa e) refl (are_first es (tail_order e es order))
    where
      by : (a : Bool) → pa e ≡ a → filter pa es ≡ take (length (filter pa es)) es
          → filter pa (e ∷ es) ≡ take (length (filter pa (e ∷ es))) (e ∷ es)
      by true h rest =
          keep pa e es h ∙ ap (λ v. e ∷ v) rest
          ∙ ap (λ v. take (length v) (e ∷ es)) (sym (keep pa e es h))
      by false h rest =
          none_left e es order h ∙ ap (λ v. take (length v) (e ∷ es)) (sym (none_left e es order h))

  off_win : (e : Edge) → pa e ≡ true → win e ≡ false
  off_win e h = ap (λ c. pb e && not c) h ∙ and_false (pb e)
    where
      and_false : (b : Bool) → (b && false) ≡ false
      and_false true = refl
      and_false false = refl

  on_win : (e : Edge) → pa e ≡ false → win e ≡ pb e
  on_win e h = ap (λ c. pb e && not c) h ∙ and_true (pb e)
    where
      and_true : (b : Bool) → (b && true) ≡ b
      and_true true = refl
      and_true false = refl

  -- without the first the others are those that have become so
  become : (e : Edge) (es : List Edge) → AreInOrder (e ∷ es) → pa e ≡ false → filter pb (e ∷ es) ≡ filter win (e ∷ es)
  become e [] order off = ap (λ c. if c then e ∷ [] else []) (sym (on_win e off))
  become e (f ∷ fs) order off =
      ap (λ v. if pb e then e ∷ v else v) (become f fs order.1 (ends e f order.0 off))
      ∙ ap (λ c. if c then e ∷ filter win (f ∷ fs) else filter win (f ∷ fs)) (sym (on_win e off))

  parts : (es : List Edge) → AreInOrder es → filter pb es ≡ filter pa es ++ filter win es
  parts [] order = refl
  parts (e ∷ es) order = by (pa e) refl (pb e) refl (parts es (tail_order e es order))
    where
      by : (a : Bool) → pa e ≡ a → (b : Bool) → pb e ≡ b → filter pb es ≡ filter pa es ++ filter win es
          → filter pb (e ∷ es) ≡ filter pa (e ∷ es) ++ filter win (e ∷ es)
      by true h true g rest =
          keep pb e es g ∙ ap (λ v. e ∷ v) rest
          ∙ ap (λ v. (e ∷ filter pa es) ++ v) (sym (skip win e es (off_win e h)))
          ∙ ap (λ v. v ++ filter win (e ∷ es)) (sym (keep pa e es h))
      by true h false g rest = let both : true ≡ false = sym h ∙ sub e g in absurd cc
      by false h b g rest =
          become e es order h ∙ ap (λ v. v ++ filter win (e ∷ es)) (sym (none_left e es order h))

-- the changes of a place are those of its edges
of_changes : (p : ℕ) (es : List Edge) → of_key p (map change_of es) ≡ map change_of (of_place p es)
of_changes p [] = refl
of_changes p (e ∷ es) = by (e.place == p) (of_changes p es)
  where
    by : (b : Bool) → of_key p (map change_of es) ≡ map change_of (of_place p es)
        → (if b then change_of e ∷ of_key p (map change_of es) else of_key p (map change_of es))
        ≡ map change_of (if b then e ∷ of_place p es else of_place p es)
    by true rest = ap (λ v. change_of e ∷ v) rest
    by false rest = rest

none_of : {X : Type 0} (xs : List X) → filter (λ x. false) xs ≡ []
none_of [] = refl
none_of (x ∷ xs) = none_of xs

module _ (layout : KeyLayout) (keys seen : List Edge) (host : List HostEvent) (starts : ℕ → ℕ) (place : ℕ)
    (cadence : KeepsCadence starts) (l : place < 96) (far : AreApart (of_place place keys))
    (later : AreLater (of_place place keys) (of_place place seen)) where
  abbrev to : (n : ℕ) → KeepsCadenceTo starts n
  to n = λ m l. cadence m

  abbrev own : List Edge
  own = of_place place seen

  abbrev before : ℕ → Edge → Bool
  before n e = read_before starts n (to n) place n e

  abbrev now : ℕ → Edge → Bool
  now n e = read_now starts n (to n) place n e

  order : AreInOrder own
  order = later_in_order (of_place place keys) own far later

  sub_at : (n : ℕ) (e : Edge) → now n e ≡ false → before n e ≡ false
  sub_at zero e h = refl
  sub_at (suc m) e h = in_time starts (suc m) (to (suc m)) e.stamp place m (omega arith) h

  ends_at : (n : ℕ) (e f : Edge) → e.stamp ≤ f.stamp → before n e ≡ false → before n f ≡ false
  ends_at zero e f l h = refl
  ends_at (suc m) e f l h = grind (arith, nat_tests, l, h)

  ends_now : (n : ℕ) (e f : Edge) → e.stamp ≤ f.stamp → now n e ≡ false → now n f ≡ false
  ends_now n e f l h = grind (arith, nat_tests, l, h)

  -- of a tick's edges those of the place are what has been read since the tick before
  in_tick : (n : ℕ) → of_key place (tick_edges starts seen n)
      ≡ map change_of (filter (λ e. now n e && not (before n e)) own)
  in_tick n =
      let on : nat_lt place 96 ≡ true = grind (arith, nat_tests, l) in
      of_changes place (by_place (λ q. filter (is_seen starts n) (of_place q seen)) 96)
      ∙ ap (map change_of)
      (of_each (λ q. filter (is_seen starts n) (of_place q seen))
      (λ q. filter_at q (is_seen starts n) (of_place q seen) (are_at q seen)) place 96
      ∙ ap (λ c. if c then filter (is_seen starts n) own else []) on
      ∙ filter_same place (is_seen starts n) (λ e. now n e && not (before n e))
      (λ e at. seen_so starts n (to n) n (omega arith) e
      ∙ ap (λ r. read_now starts n (to n) r n e && not (read_before starts n (to n) r n e)) at) own (are_at place seen))

  -- so those of all ticks up to one are what has been read by then
  up_to : (n : ℕ) → of_key place (taken_before (undebounced layout) seen host starts n)
      ≡ map change_of (filter (before n) own)
  up_to zero = ap (map change_of) (sym (none_of own))
  up_to (suc n) =
      filter-append (λ (c : ℕ × Bool). c.0 == place) (taken_before (undebounced layout) seen host starts n)
      (tick_edges starts seen n)
      ∙ ap (λ v. v ++ of_key place (tick_edges starts seen n)) (up_to n)
      ∙ ap (λ v. map change_of (filter (before n) own) ++ v) (in_tick n)
      ∙ sym (map-append change_of (filter (before n) own) (filter (λ e. now n e && not (before n e)) own))
      ∙ ap (map change_of) (sym (parts (before n) (now n) (sub_at n) (ends_at n) own order))

  module _ (n : ℕ) where
    abbrev read : ℕ
    read = read_at starts place n

    abbrev count : ℕ
    count = length (filter (now n) own)

    takes : of_key place (taken_before (undebounced layout) seen host starts (suc n))
        ≡ map change_of (take count (of_place place keys))
    takes =
        up_to (suc n)
        ∙ ap (map change_of) (are_first (now n) (now n) (λ e h. h) (ends_now n) own order)
        ∙ same_changes count (of_place place keys) own later

    -- what is taken of a key up to a tick are its first edges, each once and in their order
    pub once : TakesOnce layout keys seen host starts place n
    once = record {
      count = count;
      takes = takes;
      all_old =
          no_more (λ e. nat_le (e.stamp + distance) read) (now n)
          (λ e f later h.
          let old : e.stamp + distance ≤ read = grind (arith, nat_tests, h) in
          let soon : f.stamp ≤ e.stamp + distance = later.soon in
          let in_time : f.stamp ≤ read = omega (arith, old, soon) in
          grind (arith, nat_tests, in_time))
          (of_place place keys) own later;
      none_new =
          no_fewer (λ e. nat_le e.stamp read) (now n)
          (λ e f later h.
          let read_by : f.stamp ≤ read = grind (arith, nat_tests, h) in
          let after : e.stamp ≤ f.stamp = later.after in
          let come : e.stamp ≤ read = omega (arith, read_by, after) in
          grind (arith, nat_tests, come))
          (of_place place keys) own later;
    }

-- each edge of a key that settles late is taken once, in its order
pub taken_once : EdgesAreTakenOnce
taken_once layout keys seen host starts place n cadence l far later =
    once layout keys seen host starts place cadence l far later n
