-- The history of strokes is accepted and quiet.
use Rattle.std.proofs.Common.{◌≡◌, ℕ, suc, ◌+◌, ◌*◌, ◌%◌, ◌≤◌, ◌<◌, Bool, true, false, not, cond}
use Rattle.std.proofs.Common.{◌==◌, List, [], ◌∷◌, length, inr, refl, sym, ◌∙◌, arith}
use Rattle.std.specs.Prelude.{All}
use Rattle.std.proofs.lemmas.Bool.{eqb-true, eqb-false}
use Rattle.std.proofs.lemmas.List.Elements.{All-nil, All-cons, All-head, All-tail}
use Rattle.board_terms.specs.declared.event.Edge.{Edge}
use Rattle.board_terms.specs.declared.event.HostEvent.{HostEvent}
use Rattle.board_terms.specs.Edges.{of_place, AreInOrder}
use Rattle.board_terms.specs.Flips.{FlipsDataOrParity}
use Rattle.board_terms.specs.Laws.{ArePlaces}
use Rattle.layout_reader.specs.declared.entry.Entry.{Entry}
use Rattle.layout_reader.specs.Layouts.{KeyLayout}
use Rattle.key_file.specs.Accepted.{IsAccepted, Alternates, Dwells, IsThin, IsFifthLater, AreHostEventsInOrder, WritesByte, IsPlaceOf}
use Rattle.law_quiet_log.specs.Quiet.{IsQuietAct, IsLate, AreRising}
use Rattle.law_typed_log.specs.Typing.{Stroke, Plain, Shifted, stroke_start, presses, releases, take_of, edges_from, takes_from}
use Rattle.law_typed_log.specs.Typing.{planned}
use Rattle.law_typed_log.specs.Typed.{IsPlayable, StrokesArePlayable}
use Rattle.law_typed_log.proofs.Struck.{IsTaken, AllFit, AreStrokes, all_fit, strokes_are, lengths}

-- each edge is a tick at least after the one before
abbrev Apart : ℕ → List Edge → Type 0
Apart s [] = Unit {0}
Apart s (e ∷ es) = (s ≤ e.stamp) × Apart (e.stamp + 2048) es

apart_from : (s k : ℕ) (ss : List Stroke) → s ≤ stroke_start k → Apart s (edges_from k ss)
apart_from s k [] l = tt
apart_from s k (Plain key ∷ ss) l =
    (l, (omega arith, apart_from (stroke_start k + 10240 + 2048) (suc k) ss (omega arith)))
apart_from s k (Shifted shift key ∷ ss) l = (
  l,
  (
    omega arith,
    (
      omega arith,
      (omega arith, apart_from (stroke_start k + 10240 + 2048) (suc k) ss (omega arith)),
    ),
  ),
)

ordered_of : (s : ℕ) (es : List Edge) → Apart s es → AreInOrder es
ordered_of s [] a = tt
ordered_of s (e ∷ []) a = tt
ordered_of s (e ∷ f ∷ es) a = (omega (arith, a.1.0), ordered_of (e.stamp + 2048) (f ∷ es) a.1)

fifth_of : (a : Edge) (es : List Edge) → Apart (a.stamp + 2048) es → IsFifthLater a es
fifth_of a [] h = tt
fifth_of a (b ∷ []) h = tt
fifth_of a (b ∷ c ∷ []) h = tt
fifth_of a (b ∷ c ∷ d ∷ []) h = tt
fifth_of a (b ∷ c ∷ d ∷ e ∷ es) h = omega (arith, h.0, h.1.0, h.1.1.0, h.1.1.1.0)

thin_of : (s : ℕ) (es : List Edge) → Apart s es → IsThin es
thin_of s [] a = tt
thin_of s (e ∷ es) a = (fifth_of e es a.1, thin_of (e.stamp + 2048) es a.1)

-- the edges of one key: press, release, press and so on, each 2,240 cycles at least after the one before
abbrev Paced : Bool → ℕ → List Edge → Type 0
Paced down s [] = Unit {0}
Paced down s (e ∷ es) = (e.down ≡ not down) × ((s ≤ e.stamp) × Paced e.down (e.stamp + 2240) es)

alternates_of : (down : Bool) (s : ℕ) (es : List Edge) → Paced down s es → Alternates down es
alternates_of down s [] p = tt
alternates_of down s (e ∷ es) p = (p.0, alternates_of e.down (e.stamp + 2240) es p.1.1)

dwells_of : (down : Bool) (s : ℕ) (es : List Edge) → Paced down s es → Dwells es
dwells_of down s [] p = tt
dwells_of down s (e ∷ []) p = tt
dwells_of down s (e ∷ f ∷ es) p = (p.1.1.1.0, dwells_of e.down (e.stamp + 2240) (f ∷ es) p.1.1)

-- what follows a stroke, whatever is before it
abbrev Follows : ℕ → List Edge → Type 0
Follows stop es = (s : ℕ) → s ≤ stop → Paced false s es

plain_paced : (b : Bool) (key : Entry) (s k : ℕ) (es : List Edge) → s ≤ stroke_start k
    → Follows (stroke_start (suc k)) es
    → let r : Edge = releases key (stroke_start k + 10240) in
    Paced false s (cond b (presses key (stroke_start k) ∷ cond b (r ∷ es) es) (cond b (r ∷ es) es))
plain_paced true key s k es l more =
    (refl, (l, (refl, (omega arith, more (stroke_start k + 10240 + 2240) (omega arith)))))
plain_paced false key s k es l more = more s (omega (arith, l))

abbrev under : Bool → Bool → Entry → Entry → ℕ → List Edge → List Edge
under b c shift key t es =
    let last : List Edge = cond b (releases shift (t + 10240) ∷ es) es in
    let third : List Edge = cond c (releases key (t + 8192) ∷ last) last in
    let second : List Edge = cond c (presses key (t + 2048) ∷ third) third in
    cond b (presses shift t ∷ second) second

shifted_paced : (b c : Bool) (shift key : Entry) (s k : ℕ) (es : List Edge) → (b ≡ true → c ≡ true → ⊥)
    → s ≤ stroke_start k
    → Follows (stroke_start (suc k)) es → Paced false s (under b c shift key (stroke_start k) es)
shifted_paced true true shift key s k es never l more = absurd (never refl refl)
shifted_paced true false shift key s k es never l more =
    (refl, (l, (refl, (omega arith, more (stroke_start k + 10240 + 2240) (omega arith)))))
shifted_paced false true shift key s k es never l more =
    (refl, (omega (arith, l), (refl, (omega arith, more (stroke_start k + 8192 + 2240) (omega arith)))))
shifted_paced false false shift key s k es never l more = more s (omega (arith, l))

module _ (es : List Entry) (place : ℕ) where
  one_of : (first second : ℕ) → (first == second) ≡ false → (first == place) ≡ true → (second == place) ≡ true → ⊥
  one_of first second other a b =
      eqb-false first second other (eqb-true first place a ∙ sym (eqb-true second place b))

  paced_from : (s k : ℕ) (ss : List Stroke) → AllFit es ss → s ≤ stroke_start k
      → Paced false s (of_place place (edges_from k ss))
  paced_from s k [] fit l = tt
  paced_from s k (Plain key ∷ ss) fit l =
      plain_paced (key.place == place) key s k (of_place place (edges_from (suc k) ss)) l
      (λ t m. paced_from t (suc k) ss fit.1 m)
  paced_from s k (Shifted shift key ∷ ss) fit l =
      shifted_paced (shift.place == place) (key.place == place) shift key s k (of_place place (edges_from (suc k) ss))
      (one_of shift.place key.place fit.0.apart) l
      (λ t m. paced_from t (suc k) ss fit.1 m)

-- what holds of an edge of such a place, in the middle of a tick and by an end
module _ (P : Edge → Type 0) (es : List Entry) (stop : ℕ)
    (each : (e : Edge) → IsTaken es e.place → e.stamp % 2048 ≡ 1024 → e.stamp ≤ stop → P e) where
  -- so it is of all edges of strokes
  all_edges : (k : ℕ) (ss : List Stroke) → AllFit es ss → stroke_start (length ss + k) ≤ stop → All P (edges_from k ss)
  all_edges k [] fit l = All-nil P
  all_edges k (Plain key ∷ ss) fit l =
      let t : ℕ = stroke_start k in
      let rest : List Edge = edges_from (suc k) ss in
      let more : All P rest = all_edges (suc k) ss fit.1 (omega (arith, l)) in
      let second : Edge = releases key (t + 10240) in
      All-cons P (presses key t) (second ∷ rest) (each (presses key t) fit.0 (omega arith) (omega (arith, l)))
      (All-cons P second rest (each second fit.0 (omega arith) (omega (arith, l))) more)
  all_edges k (Shifted shift key ∷ ss) fit l =
      let t : ℕ = stroke_start k in
      let rest : List Edge = edges_from (suc k) ss in
      let more : All P rest = all_edges (suc k) ss fit.1 (omega (arith, l)) in
      let second : Edge = presses key (t + 2048) in
      let third : Edge = releases key (t + 8192) in
      let last : Edge = releases shift (t + 10240) in
      let h : IsTaken es shift.place = fit.0.of_first in
      let g : IsTaken es key.place = fit.0.of_second in
      All-cons P (presses shift t) (second ∷ third ∷ last ∷ rest)
      (each (presses shift t) h (omega arith) (omega (arith, l)))
      (All-cons P second (third ∷ last ∷ rest) (each second g (omega arith) (omega (arith, l)))
      (All-cons P third (last ∷ rest) (each third g (omega arith) (omega (arith, l)))
      (All-cons P last rest (each last h (omega arith) (omega (arith, l))) more)))

-- the same of the takes
module _ (P : HostEvent → Type 0) (stop : ℕ)
    (each : (t : ℕ) → t % 2048 ≡ 1024 → t + 20480 ≤ stop → P (take_of t)) where
  all_takes : (k : ℕ) (ss : List Stroke) → stroke_start (length ss + k) ≤ stop → All P (takes_from k ss)
  all_takes k [] l = All-nil P
  all_takes k (s ∷ ss) l =
      All-cons P (take_of (stroke_start k)) (takes_from (suc k) ss)
      (each (stroke_start k) (omega arith) (omega (arith, l)))
      (all_takes (suc k) ss (omega (arith, l)))

-- the host takes at rising stamps
takes_rise : (k : ℕ) (ss : List Stroke) → AreRising (takes_from k ss)
takes_rise k [] = tt
takes_rise k (s ∷ []) = tt
takes_rise k (s ∷ r ∷ ss) = (omega arith, takes_rise (suc k) (r ∷ ss))

takes_in_order : (k : ℕ) (ss : List Stroke) → AreHostEventsInOrder (takes_from k ss)
takes_in_order k [] = tt
takes_in_order k (s ∷ []) = tt
takes_in_order k (s ∷ r ∷ ss) = (omega arith, takes_in_order (suc k) (r ∷ ss))

-- a stroke has four edges at most, and one take
few_edges : (k : ℕ) (ss : List Stroke) → length (edges_from k ss) ≤ 4 * length ss
few_edges k [] = omega arith
few_edges k (Plain key ∷ ss) = omega (arith, few_edges (suc k) ss)
few_edges k (Shifted shift key ∷ ss) = omega (arith, few_edges (suc k) ss)

few_takes : (k : ℕ) (ss : List Stroke) → length (takes_from k ss) ≤ length ss
few_takes k [] = omega arith
few_takes k (s ∷ ss) = omega (arith, few_takes (suc k) ss)

places_of : (edges : List Edge) → All (λ e. e.place < 96) edges → ArePlaces edges
places_of [] all = tt
places_of (e ∷ edges) all = (
  All-head (λ (x : Edge). x.place < 96) e edges all,
  places_of edges
      (All-tail (λ (x : Edge). x.place < 96) e edges all),
)

module _ (layout : KeyLayout) (ss : List Stroke) (fit : AllFit layout.entries ss) (l : length ss ≤ 10000) where
  ends : stroke_start (length ss + 0) ≤ stroke_start (length ss)
  ends = omega arith

  accepted : IsAccepted (planned ss)
  unfolding planned
  accepted = record {
    lawful = record {
      in_matrix = places_of (edges_from 0 ss)
          (all_edges (λ e. e.place < 96) layout.entries (stroke_start (length ss)) (λ e p m n. p.in_matrix) 0 ss fit
          ends);
      edges_in_order = ordered_of 0 (edges_from 0 ss) (apart_from 0 0 ss (omega arith));
      host_in_order = takes_in_order 0 ss;
      written = all_takes (λ e. WritesByte e.act) (stroke_start (length ss)) (λ t m n. tt) 0 ss ends;
      flips = all_takes (λ e. FlipsDataOrParity e.act) (stroke_start (length ss)) (λ t m n. tt) 0 ss ends;
      alternate = λ p. alternates_of false 0 (of_place p (edges_from 0 ss))
          (paced_from layout.entries p 0 0 ss fit (omega arith));
      dwell = λ p. dwells_of false 0 (of_place p (edges_from 0 ss))
          (paced_from layout.entries p 0 0 ss fit (omega arith));
      thin = thin_of 0 (edges_from 0 ss) (apart_from 0 0 ss (omega arith));
    };
    edges_before_end =
        all_edges (λ e. e.stamp ≤ stroke_start (length ss)) layout.entries (stroke_start (length ss)) (λ e p m n. n)
        0 ss fit ends;
    host_before_end =
        all_takes (λ e. e.stamp ≤ stroke_start (length ss)) (stroke_start (length ss)) (λ t m n. omega (arith, n)) 0
        ss ends;
    end_in_range = omega (arith, l);
    number_in_range = omega (arith, l, few_edges 0 ss, few_takes 0 ss);
  }

  -- the history of strokes whose keys the layout has is accepted and quiet
  pub playable : IsPlayable layout (planned ss)
  unfolding planned
  playable = record {
    accepted = record {
      accepted = accepted;
      places = all_edges (λ e. IsPlaceOf layout e.place) layout.entries (stroke_start (length ss)) (λ e p m n. p.own)
          0 ss fit ends;
    };
    quiet = record {
      acts = all_takes (λ e. IsQuietAct e.act) (stroke_start (length ss)) (λ t m n. tt) 0 ss ends;
      rising = takes_rise 0 ss;
      host_late = all_takes (λ e. IsLate e.stamp) (stroke_start (length ss)) (λ t m n. omega (arith, m)) 0 ss ends;
      edges_late =
          all_edges (λ e. IsLate e.stamp) layout.entries (stroke_start (length ss)) (λ e p m n. omega (arith, m)) 0
          ss fit ends;
      clear = inr (omega arith);
    };
  }

-- the history of the strokes of a text of at most 10,000 bytes is accepted and quiet
pub strokes_are_playable : StrokesArePlayable
strokes_are_playable layout text ss is l h =
    let a : AreStrokes layout.entries text ss = strokes_are layout is text ss h in
    playable layout ss (all_fit layout.entries text ss a) (omega (arith, l, lengths layout.entries text ss a))
