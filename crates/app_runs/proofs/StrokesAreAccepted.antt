-- The strokes of `sample` are a history that is accepted for the sample layout, with a debounce or without.
use Rattle.std.proofs.Common.{◌≡◌, ◌≤◌, ◌<◌, ℕ, zero, suc, ◌+◌, ◌==◌, Bool, true, false, List, []}
use Rattle.std.proofs.Common.{◌∷◌, ◌++◌, length, map, refl, ap, sym, subst, ◌∙◌, arith}
use Rattle.std.specs.Prelude.{IsSome}
use Rattle.std.specs.List.{flat_map, range_with_len}
use Rattle.std.proofs.lemmas.Bool.{eqb-false}
use Rattle.std.proofs.lemmas.List.FromFn.{map-range_with_len_more}
use Rattle.board_terms.specs.declared.event.Edge.{Edge}
use Rattle.board_terms.specs.declared.event.HostEvent.{HostEvent}
use Rattle.board_terms.specs.declared.event.HostAct.TheVariants.{Take}
use Rattle.key_file.specs.Accepted.{IsAcceptedFor}
use Rattle.key_file.specs.Histories.{KeyHistory}
use Rattle.layout_reader.specs.Layouts.{entry_at, sample_entry, us84}
use Rattle.law_typed_log.specs.Typing.{Stroke, Plain, edges_from, planned, stroke_start, takes_from}
use Rattle.law_typed_log.proofs.Played.{playable}
use Rattle.law_typed_log.proofs.Struck.{AllFit}
use Rattle.app_runs.specs.Sampling.{sample_history, sample_layout, stroke_edges, stroke_key, stroke_take}
use Rattle.law_typed_log.specs.Typing.{stroke_start}

-- so many strokes, the first of which has this number
abbrev strokes_from : ℕ → ℕ → List Stroke
strokes_from k zero = []
strokes_from k (suc n) = Plain (sample_entry (stroke_key k)) ∷ strokes_from (k + 1) n

many : (k n : ℕ) → length (strokes_from k n) ≡ n
many k zero = refl
many k (suc n) = omega (arith, many (k + 1) n)

edges_are : (k n : ℕ) → edges_from k (strokes_from k n) ≡ flat_map stroke_edges (range_with_len k n)
edges_are k zero = refl
edges_are k (suc n) =
    let next : suc k ≡ k + 1 = omega arith in
    ap (λ m. stroke_edges k ++ edges_from m (strokes_from (k + 1) n)) next ∙ ap (λ es. stroke_edges k ++ es) (edges_are (k + 1) n)

takes_are : (k n : ℕ) → takes_from k (strokes_from k n) ≡ map stroke_take (range_with_len k n)
takes_are k zero = refl
takes_are k (suc n) =
    let next : suc k ≡ k + 1 = omega arith in
    ap (λ m. stroke_take k ∷ takes_from m (strokes_from (k + 1) n)) next ∙ ap (λ es. stroke_take k ∷ es) (takes_are (k + 1) n)

-- each number among these has an entry
found_by : (b : Bool) (a n p : ℕ) → (a == p) ≡ b → (b ≡ false → IsSome (entry_at p (map sample_entry (range_with_len (a + 1) n))))
    → IsSome (entry_at p (map sample_entry (range_with_len a (suc n))))
found_by true a n p is more = rw is refl
found_by false a n p is more = rw is (more refl)

has_entry : (a n p : ℕ) → a ≤ p → p < a + n → IsSome (entry_at p (map sample_entry (range_with_len a n)))
has_entry a zero p from to = absurd (omega (arith, from, to))
has_entry a (suc n) p from to =
    found_by (a == p) a n p refl (λ other.
    let apart = eqb-false a p other in
    has_entry (a + 1) n p (omega (arith, from, apart)) (omega (arith, to)))

all_fit : (k n : ℕ) → AllFit us84.entries (strokes_from k n)
unfolding us84
all_fit k zero = tt
all_fit k (suc n) =
    (record { in_matrix = omega arith; own = has_entry 0 84 (stroke_key k) (omega arith) (omega arith) }, all_fit (k + 1) n)

history_is : (count : ℕ) → planned (strokes_from 0 count) ≡ sample_history count
unfolding planned
history_is count =
    let edges = edges_are 0 count in
    let host = takes_are 0 count in
    let n = many 0 count in
    ap (λ es. record { edges = es; host = takes_from 0 (strokes_from 0 count); end = stroke_start (length (strokes_from 0 count)) }) edges
    ∙ ap (λ hs. record {
      edges = flat_map stroke_edges (range_with_len 0 count);
      host = hs;
      end = stroke_start (length (strokes_from 0 count));
    }) host
    ∙ ap (λ m. record {
      edges = flat_map stroke_edges (range_with_len 0 count);
      host = map stroke_take (range_with_len 0 count);
      end = stroke_start m;
    }) n

-- the strokes of `sample`, up to 10,000, are an accepted history for the sample layout, with a debounce or without
pub sample_accepted : (count : ℕ) → count ≤ 10000 → (debounced : Bool) → IsAcceptedFor (sample_layout debounced) (sample_history count)
sample_accepted count few debounced =
    let layout = sample_layout debounced in
    let n = many 0 count in
    subst (λ (h : KeyHistory). IsAcceptedFor layout h) (history_is count)
    (playable layout (strokes_from 0 count) (all_fit 0 count) (omega (arith, few, n))).accepted

-- one stroke more, whose edges are pushed one after the other
edges_more : (a n j : ℕ) → a + n ≡ j → flat_map stroke_edges (range_with_len a (n + 1)) ≡ (flat_map stroke_edges (range_with_len a n)
    ++ record { stamp = stroke_start j; place = stroke_key j; down = true } ∷ [])
    ++ record { stamp = stroke_start j + 10240; place = stroke_key j; down = false } ∷ []
edges_more a zero j h = let same : a ≡ j = omega (arith, h) in ap stroke_edges same
edges_more a (suc n) j h =
    let later : suc n + 1 ≡ suc (n + 1) = omega arith in
    ap (λ m. flat_map stroke_edges (range_with_len a m)) later ∙ ap (λ es. stroke_edges a ++ es) (edges_more (a + 1) n j (omega (arith, h)))

-- with the press and the release of one stroke more the edges are those of one stroke more
pub edges_pushed : (k t u place : ℕ) (xs ys zs : List Edge)
    → xs ≡ flat_map stroke_edges (range_with_len 0 k) → t ≡ stroke_start k → u ≡ t + 10240 → place ≡ stroke_key k
    → ys ≡ xs ++ record { stamp = t; place = place; down = true } ∷ [] → zs ≡ ys ++ record { stamp = u; place = place; down = false } ∷ []
    → zs ≡ flat_map stroke_edges (range_with_len 0 (k + 1))
edges_pushed k t u place xs ys zs was begins ends at first second =
    let up : u ≡ stroke_start k + 10240 = ends ∙ ap (λ n. n + 10240) begins in
    second ∙ rw (first, was, up, begins, at) (sym (edges_more 0 k k (omega arith)))

-- with the take of one stroke more the takes are those of one stroke more
pub takes_pushed : (k t : ℕ) (xs ys : List HostEvent) → xs ≡ map stroke_take (range_with_len 0 k) → t ≡ stroke_start k + 14336
    → ys ≡ xs ++ record { stamp = t; act = Take } ∷ [] → ys ≡ map stroke_take (range_with_len 0 (k + 1))
takes_pushed k t xs ys was in_its_place more = more ∙ rw (was, in_its_place) (sym (map-range_with_len_more stroke_take 0 k k (omega arith)))
