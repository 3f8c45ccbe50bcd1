-- Edges that each have their time are seen in ticks of their own.
use Rattle.std.proofs.Common.{◌≡◌, ◌≤◌, ◌<◌, ℕ, zero, suc, ◌+◌, ◌*◌, ◌/◌, Bool, true, false, not, ◌&&◌, List, [], ◌∷◌, refl, arith}
use Rattle.std.specs.Prelude.{nat_le}
use Rattle.std.proofs.lemmas.Bool.Decides.{nat_tests}
use Rattle.board_terms.specs.Cadence.{KeepsCadence}
use Rattle.board_terms.specs.Laws.{ArePlaces}
use Rattle.board_terms.specs.declared.event.Edge.{Edge}
use Rattle.edge_queue.specs.Laws.{AreSpaced}
use Rattle.edge_queue.specs.Queue.{time_of}
use Rattle.edge_queue.proofs.Law.{are_lawful}
use Rattle.model_link.specs.TickEdges.{is_seen, none_before, read_at}
use Rattle.law_keys_seen.specs.Turns.{AreInTurn, AreSeenInTurn, IsSeenAfter, ticks_of}

both_left : (a b : Bool) → (a && b) ≡ true → a ≡ true
both_left true b h = refl
both_left false b h = absurd (cc)

both_right : (a b : Bool) → (a && b) ≡ true → b ≡ true
both_right true b h = h
both_right false b h = absurd (cc)

-- the tick before that in which an edge is seen reads its column too soon
too_soon : (p : ℕ → Bool) (k : ℕ) → none_before p (suc k) ≡ true → p k ≡ false
too_soon p k h = elim (p k) as (λ b. (not b && none_before p k) ≡ true → b ≡ false) [
  | true ↦ λ g. absurd (cc)
  | false ↦ λ g. refl
] h

-- the time of an edge is more than it takes
pub time_enough : (debounce down : Bool) → 2240 * ticks_of debounce down ≤ time_of debounce down
time_enough true true = omega arith
time_enough true false = omega arith
time_enough false true = omega arith
time_enough false false = omega arith

few_ticks : (debounce down : Bool) → ticks_of debounce down ≤ 2
few_ticks true down = omega arith
few_ticks false true = omega arith
few_ticks false false = omega arith

-- each edge takes a tick or more
pub some_ticks : (debounce down : Bool) → 1 ≤ ticks_of debounce down
some_ticks true down = omega arith
some_ticks false true = omega arith
some_ticks false false = omega arith

-- when an edge is seen in a tick: by its stamp
pub seen_by : (starts : ℕ → ℕ) (n : ℕ) (e : Edge) → KeepsCadence starts → e.place < 96 → is_seen starts n e ≡ true
    → e.stamp ≤ 2048 * n + 197
seen_by starts n e cadence l h =
    let p : ℕ → Bool = λ j. nat_le e.stamp (read_at starts e.place j) in
    let read : nat_le e.stamp (starts n + 16 + 16 * (e.place / 8)) ≡ true = both_left (p n) (none_before p n) h in
    let at : e.stamp ≤ starts n + 16 + 16 * (e.place / 8) = grind (arith, nat_tests, read) in
    let most = (cadence n).most in
    omega (arith, at, most, l)

-- an edge that a tick sees came 2,031 cycles before the tick's multiple of 2,048 at the earliest
pub seen_past : (starts : ℕ → ℕ) (n : ℕ) (e : Edge) → KeepsCadence starts → is_seen starts n e ≡ true → 2048 * n ≤ e.stamp + 2031
seen_past starts zero e cadence h = omega arith
seen_past starts (suc k) e cadence h =
    let p : ℕ → Bool = λ j. nat_le e.stamp (read_at starts e.place j) in
    let read : nat_le e.stamp (starts k + 16 + 16 * (e.place / 8)) ≡ false =
    too_soon p k (both_right (p (suc k)) (none_before p (suc k)) h) in
    let at : starts k + 16 + 16 * (e.place / 8) < e.stamp = grind (arith, nat_tests, read) in
    let least = (cadence k).least in
    omega (arith, at, least)

-- 2,240 cycles for each tick are as many ticks, whatever the columns
ticks_apart : (n m ticks sooner later : ℕ) → 1 ≤ ticks → ticks ≤ 2 → 2048 * n ≤ sooner + 2031 → later ≤ 2048 * m + 197
    → sooner + 2240 * ticks ≤ later → n + ticks ≤ m
ticks_apart n m ticks sooner later some few past by apart = omega (arith, some, few, past, by, apart)

module _ (debounce : Bool) (starts : ℕ → ℕ) (cadence : KeepsCadence starts) where
  after_one : (e f : Edge) → f.place < 96 → e.stamp + time_of debounce e.down ≤ f.stamp → IsSeenAfter debounce starts e f
  after_one e f l apart = λ n m is at.
      let enough = time_enough debounce e.down in
      ticks_apart n m (ticks_of debounce e.down) e.stamp f.stamp (some_ticks debounce e.down) (few_ticks debounce e.down)
      (seen_past starts n e cadence is) (seen_by starts m f cadence l at) (omega (arith, enough, apart))

  in_turn : (ready : ℕ) (es : List Edge) → ArePlaces es → AreSpaced debounce ready es → AreInTurn debounce starts es
  in_turn ready [] placed spaced = tt
  in_turn ready (e ∷ []) placed spaced = tt
  in_turn ready (e ∷ f ∷ es) placed spaced = (
    after_one e f placed.1.0 spaced.1.0,
    in_turn (e.stamp + time_of debounce e.down) (f ∷ es) placed.1 spaced.1,
  )

-- the edges of a queue are seen in ticks of their own, in their order
pub seen_in_turn : AreSeenInTurn
seen_in_turn debounce starts cadence calls placed =
    let lawful = are_lawful debounce calls 0 placed in
    in_turn debounce starts cadence 0 _ lawful.1.in_matrix lawful.0
