-- Of edges that each have their time, a tick sees one at most; with a debounce the tick after it sees none.
use Rattle.std.proofs.Common.{◌≡◌, ◌≤◌, ◌<◌, ℕ, zero, suc, ◌+◌, ◌*◌, ◌/◌, ◌==◌, Bool, true, false, List, [], ◌∷◌, ◌++◌, map}
use Rattle.std.proofs.Common.{◌⊎◌, inl, inr, refl, ap, sym, ◌∙◌, arith}
use Rattle.std.specs.Prelude.{if◌then◌else◌, nat_lt}
use Rattle.std.specs.List.{filter}
use Rattle.std.proofs.lemmas.Bool.Decides.{nat_tests}
use Rattle.std.proofs.lemmas.List.{append-nil}
use Rattle.board_terms.proofs.Shown.{keep, skip}
use Rattle.board_terms.specs.Cadence.{KeepsCadence}
use Rattle.board_terms.specs.Edges.{of_place}
use Rattle.board_terms.specs.Laws.{ArePlaces}
use Rattle.board_terms.specs.declared.event.Edge.{Edge}
use Rattle.edge_queue.specs.Laws.{AreSpaced}
use Rattle.edge_queue.specs.Queue.{time_of}
use Rattle.model_link.proofs.Edges.{same_by_place}
use Rattle.model_link.proofs.Seen.{seen_once}
use Rattle.model_link.specs.Laws.{SeenOnce}
use Rattle.model_link.specs.TickEdges.{by_place, change_of, is_seen, read_at, tick_edges}
use Rattle.law_keys_seen.proofs.Ticks.{seen_by, seen_past, some_ticks, time_enough}
use Rattle.law_keys_seen.specs.Turns.{AreTakenFrom, IsNext, ticks_of}

-- the seen ones of a place are those of the place that are seen
swap : (s : Edge → Bool) (p : ℕ) (es : List Edge) → filter s (of_place p es) ≡ of_place p (filter s es)
swap s p [] = refl
swap s p (e ∷ es) = by (s e) refl (e.place == p) refl (swap s p es)
  where
    by : (b : Bool) → s e ≡ b → (c : Bool) → (e.place == p) ≡ c → filter s (of_place p es) ≡ of_place p (filter s es)
        → filter s (of_place p (e ∷ es)) ≡ of_place p (filter s (e ∷ es))
    by true g true h rest =
        ap (filter s) (keep (λ (x : Edge). x.place == p) e es h) ∙ keep s e (of_place p es) g ∙ ap (λ v. e ∷ v) rest
        ∙ sym (keep (λ (x : Edge). x.place == p) e (filter s es) h) ∙ ap (of_place p) (sym (keep s e es g))
    by true g false h rest =
        ap (filter s) (skip (λ (x : Edge). x.place == p) e es h) ∙ rest
        ∙ sym (skip (λ (x : Edge). x.place == p) e (filter s es) h) ∙ ap (of_place p) (sym (keep s e es g))
    by false g true h rest =
        ap (filter s) (keep (λ (x : Edge). x.place == p) e es h) ∙ skip s e (of_place p es) g ∙ rest
        ∙ ap (of_place p) (sym (skip s e es g))
    by false g false h rest =
        ap (filter s) (skip (λ (x : Edge). x.place == p) e es h) ∙ rest ∙ ap (of_place p) (sym (skip s e es g))

-- no edge, or one, by places
none_placed : (k : ℕ) → by_place (λ p. of_place p []) k ≡ []
none_placed zero = refl
none_placed (suc k) = ap (λ v. v ++ []) (none_placed k)

one_placed : (e : Edge) (k : ℕ) → by_place (λ p. of_place p (e ∷ [])) k ≡ (if nat_lt e.place k then e ∷ [] else [])
one_placed e zero =
    let off : nat_lt e.place 0 ≡ false = grind (arith, nat_tests) in ap (λ c. if c then e ∷ [] else []) (sym off)
one_placed e (suc k) = ap (λ v. v ++ of_place k (e ∷ [])) (one_placed e k) ∙ by (e.place == k) refl
  where
    by : (b : Bool) → (e.place == k) ≡ b
        → (if nat_lt e.place k then e ∷ [] else []) ++ of_place k (e ∷ []) ≡ (if nat_lt e.place (suc k) then e ∷ [] else [])
    by true h =
        let off : nat_lt e.place k ≡ false = grind (arith, nat_tests, h) in
        let on : nat_lt e.place (suc k) ≡ true = grind (arith, nat_tests, h) in
        ap (λ c. (if c then e ∷ [] else []) ++ of_place k (e ∷ [])) off ∙ keep (λ (x : Edge). x.place == k) e [] h
        ∙ ap (λ c. if c then e ∷ [] else []) (sym on)
    by false h =
        ap (λ v. (if nat_lt e.place k then e ∷ [] else []) ++ v) (skip (λ (x : Edge). x.place == k) e [] h)
        ∙ append-nil (if nat_lt e.place k then e ∷ [] else []) ∙ ap (λ c. if c then e ∷ [] else []) (less_too (nat_lt e.place k) refl)
      where
        less_too : (c : Bool) → nat_lt e.place k ≡ c → nat_lt e.place k ≡ nat_lt e.place (suc k)
        less_too true g = let n : nat_lt e.place (suc k) ≡ true = grind (arith, nat_tests, g) in g ∙ sym n
        less_too false g = let n : nat_lt e.place (suc k) ≡ false = grind (arith, nat_tests, g, h) in g ∙ sym n

module _ (debounce : Bool) (starts : ℕ → ℕ) (cadence : KeepsCadence starts) where
  -- edges from a stamp on are seen from a tick on
  is_late : (from ready n : ℕ) (e : Edge) → e.place < 96 → 2048 * from ≤ ready + 1850 → ready ≤ e.stamp
      → is_seen starts n e ≡ true → from ≤ n
  is_late from ready n e l low at h =
      let by_then = seen_by starts n e cadence l h in
      omega (arith, low, at, by_then)

  -- and after one, from the ticks on that it takes
  next_low : (n : ℕ) (e : Edge) → is_seen starts n e ≡ true
      → 2048 * (n + ticks_of debounce e.down) ≤ e.stamp + time_of debounce e.down + 1850
  next_low n e h =
      let past = seen_past starts n e cadence h in
      let enough = time_enough debounce e.down in
      apart n (ticks_of debounce e.down) e.stamp (time_of debounce e.down) past enough (some_ticks debounce e.down)
    where
      apart : (n ticks stamp time : ℕ) → 2048 * n ≤ stamp + 2031 → 2240 * ticks ≤ time → 1 ≤ ticks
          → 2048 * (n + ticks) ≤ stamp + time + 1850
      apart n ticks stamp time past enough some = omega (arith, past, enough, some)

  -- before that tick none is seen
  unseen : (from ready n : ℕ) (es : List Edge) → ArePlaces es → AreSpaced debounce ready es → 2048 * from ≤ ready + 1850
      → n < from → filter (is_seen starts n) es ≡ []
  unseen from ready n [] placed spaced low less = refl
  unseen from ready n (e ∷ es) placed spaced low less =
      by (is_seen starts n e) refl
      (unseen from (e.stamp + time_of debounce e.down) n es placed.1 spaced.1 later less)
    where
      later : 2048 * from ≤ e.stamp + time_of debounce e.down + 1850
      later = let at = spaced.0 in omega (arith, at, low)

      by : (b : Bool) → is_seen starts n e ≡ b → filter (is_seen starts n) es ≡ [] → filter (is_seen starts n) (e ∷ es) ≡ []
      by true h rest = absurd (let l = is_late from ready n e placed.0 low spaced.0 h in omega (arith, l, less))
      by false h rest = skip (is_seen starts n) e es h ∙ rest

  -- each edge is seen
  once : (e : Edge) → SeenOnce starts e.stamp e
  once e = seen_once starts e.stamp e (let least = (cadence e.stamp).least in omega (arith, least))

  -- and not in another tick
  elsewhere : (e : Edge) (n : ℕ) → (n ≡ (once e).seen → ⊥) → (b : Bool) → is_seen starts n e ≡ b → is_seen starts n e ≡ false
  elsewhere e n apart true h = absurd (apart ((once e).other n h))
  elsewhere e n apart false h = h

  -- a tick by those edges of all that it sees
  module _ (all : List Edge) where
    sees_none : (n : ℕ) → filter (is_seen starts n) all ≡ [] → tick_edges starts all n ≡ []
    sees_none n h =
        ap (map change_of) (same_by_place (λ p. filter (is_seen starts n) (of_place p all)) (λ p. of_place p [])
        (λ p m. swap (is_seen starts n) p all ∙ ap (of_place p) h) 96 (omega arith) ∙ none_placed 96)

    sees_one : (n : ℕ) (e : Edge) → e.place < 96 → filter (is_seen starts n) all ≡ e ∷ []
        → tick_edges starts all n ≡ change_of e ∷ []
    sees_one n e l h =
        let on : nat_lt e.place 96 ≡ true = grind (arith, nat_tests, l) in
        ap (map change_of) (same_by_place (λ p. filter (is_seen starts n) (of_place p all)) (λ p. of_place p (e ∷ []))
        (λ p m. swap (is_seen starts n) p all ∙ ap (of_place p) h) 96 (omega arith) ∙ one_placed e 96
        ∙ ap (λ c. if c then e ∷ [] else []) on)

    -- from a tick on these are those that are left
    abbrev Left : ℕ → List Edge → Type 0
    Left from es = (n : ℕ) → from ≤ n → filter (is_seen starts n) all ≡ filter (is_seen starts n) es

    -- the first of those left has its tick
    record First (from : ℕ) (e : Edge) (es : List Edge) : Type 0 where
      next : IsNext (tick_edges starts all) from e
      sees : is_seen starts next.tick e ≡ true
      after : (n : ℕ) → next.tick < n → n < next.tick + ticks_of debounce e.down → filter (is_seen starts n) all ≡ []
      low : 2048 * suc next.tick ≤ e.stamp + time_of debounce e.down + 1850
      left : Left (suc next.tick) es

    first : (from ready : ℕ) (e : Edge) (es : List Edge) → ArePlaces (e ∷ es) → AreSpaced debounce ready (e ∷ es)
        → 2048 * from ≤ ready + 1850 → Left from (e ∷ es) → First from e es
    first from ready e es placed spaced low left =
        let tick : ℕ = (once e).seen in
        let sees : is_seen starts tick e ≡ true = (once e).sees in
        let later : from ≤ tick = is_late from ready tick e placed.0 low spaced.0 sees in
        let free = next_low tick e sees in
        let some = some_ticks debounce e.down in
        let rest : (n : ℕ) → n < tick + ticks_of debounce e.down → filter (is_seen starts n) es ≡ [] = λ n l.
        unseen (tick + ticks_of debounce e.down) (e.stamp + time_of debounce e.down) n es placed.1 spaced.1 free l in
        record {
          next = record {
            tick = tick;
            later = later;
            alone = sees_one tick e placed.0
                (left tick later ∙ keep (is_seen starts tick) e es sees ∙ ap (λ v. e ∷ v) (rest tick (omega (arith, some))));
            none_before = λ n l u.
                sees_none n (left n l
                ∙ skip (is_seen starts n) e es (elsewhere e n (λ is. omega (arith, is, u)) (is_seen starts n e) refl)
                ∙ rest n (omega (arith, u)));
          };
          sees = sees;
          after = λ n l u.
              left n (omega (arith, later, l))
              ∙ skip (is_seen starts n) e es (elsewhere e n (λ is. omega (arith, is, l)) (is_seen starts n e) refl) ∙ rest n u;
          low = omega (arith, free, some);
          left = λ n l.
              left n (omega (arith, later, l))
              ∙ skip (is_seen starts n) e es (elsewhere e n (λ is. omega (arith, is, l)) (is_seen starts n e) refl);
        }

    -- of edges that each have their time a tick sees one at most, in their order
    pub each_alone : (from ready : ℕ) (es : List Edge) → ArePlaces es → AreSpaced debounce ready es
        → 2048 * from ≤ ready + 1850 → Left from es → AreTakenFrom (tick_edges starts all) from es
    each_alone from ready [] placed spaced low left = λ n l. sees_none n (left n l)
    each_alone from ready (e ∷ es) placed spaced low left =
        let f = first from ready e es placed spaced low left in (
          f.next,
          each_alone (suc f.next.tick) (e.stamp + time_of debounce e.down) es placed.1 spaced.1 f.low f.left,
        )

    -- with a debounce, of two ticks in a row one sees nothing
    abbrev pub IsApart : ℕ → Type 0
    IsApart n = (tick_edges starts all n ≡ []) ⊎ (tick_edges starts all (suc n) ≡ [])

    -- with a debounce, of two ticks in a row one sees nothing
    pub none_beside : (two : (down : Bool) → ticks_of debounce down ≡ 2) (from ready : ℕ) (es : List Edge) → ArePlaces es
        → AreSpaced debounce ready es → 2048 * from ≤ ready + 1850 → Left from es → (n : ℕ) → from ≤ n → IsApart n
    none_beside two from ready [] placed spaced low left n l = inl (sees_none n (left n l))
    none_beside two from ready (e ∷ es) placed spaced low left n l =
        let f = first from ready e es placed spaced low left in
        by f (nat_lt n f.next.tick) refl (nat_lt f.next.tick n) refl
        (none_beside two (suc f.next.tick) (e.stamp + time_of debounce e.down) es placed.1 spaced.1 f.low f.left n)
      where
        by : (f : First from e es) (b : Bool) → nat_lt n f.next.tick ≡ b → (c : Bool) → nat_lt f.next.tick n ≡ c
            → (suc f.next.tick ≤ n → IsApart n) → IsApart n
        by f true g c h rest = inl (f.next.none_before n l (grind (arith, nat_tests, g)))
        by f false g true h rest = rest (grind (arith, nat_tests, h))
        by f false g false h rest =
            let here : n ≡ f.next.tick = grind (arith, nat_tests, g, h) in
            let both = two e.down in
            inr (sees_none (suc n) (f.after (suc n) (omega (arith, here)) (omega (arith, here, both))))
