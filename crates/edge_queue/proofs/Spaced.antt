-- Edges that each have their time are in order, apart by place, and never five at once; and those of a queue have it.
use Rattle.std.proofs.Common.{◌≡◌, ◌≤◌, ℕ, ◌+◌, Bool, true, false, List, [], ◌∷◌, ◌++◌, Some, None, refl, subst, arith, ◌==◌}
use Rattle.std.specs.Prelude.{nat_lt, if◌then◌else◌}
use Rattle.std.proofs.lemmas.Bool.Decides.{nat_tests}
use Rattle.board_terms.specs.declared.event.Edge.{Edge}
use Rattle.board_terms.specs.Edges.{of_place, AreInOrder}
use Rattle.key_file.specs.Accepted.{Dwells, IsFifthLater, IsThin}
use Rattle.edge_queue.specs.Calls.{Call, handed, if_taken}
use Rattle.edge_queue.specs.Calls.Call.{Push, Take}
use Rattle.edge_queue.specs.Laws.{AreSpaced}
use Rattle.edge_queue.specs.Queue.{Queue, after_first, due_at, edge_at, entered, first_taken, is_full, is_repeated, pushed, time_of}
use Rattle.edge_queue.specs.declared.queue.Pushed.{Pushed}

slow : (debounce down : Bool) → 2240 ≤ time_of debounce down
slow true true = omega arith
slow true false = omega arith
slow false true = omega arith
slow false false = omega arith

-- a push changes no time
ready_kept : (e : Pushed) (q : Queue) → (pushed e q).ready ≡ q.ready
ready_kept e q =
    elim (is_repeated e q) as (λ b. (if b then q else if is_full e.down q then q else entered e q).ready ≡ q.ready) [
      | true ↦ refl
      | false ↦ elim (is_full e.down q) as (λ b. (if b then q else entered e q).ready ≡ q.ready) [ true ↦ refl | false ↦ refl ]
    ]

-- an edge that is due at a time is handed over once the queue is ready
pub due_later : (ready stamp now : ℕ) → nat_lt now (due_at ready stamp) ≡ false → ready ≤ now
due_later ready stamp now h =
    elim (nat_lt stamp ready) as (λ b. nat_lt stamp ready ≡ b → nat_lt now (if b then ready else stamp) ≡ false → ready ≤ now) [
      | true ↦ λ t l. grind (arith, nat_tests, l)
      | false ↦ λ t l. grind (arith, nat_tests, t, l)
    ] refl h

module _ (debounce : Bool) where
  -- they come at a sooner stamp or later, too
  sooner : (ready soon : ℕ) (es : List Edge) → soon ≤ ready → AreSpaced debounce ready es → AreSpaced debounce soon es
  sooner ready soon [] l s = tt
  sooner ready soon (e ∷ es) l s = let at = s.0 in (omega (arith, l, at), s.1)

  -- edges that each have their time are in order
  pub in_order : (ready : ℕ) (es : List Edge) → AreSpaced debounce ready es → AreInOrder es
  in_order ready [] s = tt
  in_order ready (e ∷ []) s = tt
  in_order ready (e ∷ f ∷ es) s =
      let at = s.1.0 in
      (omega (arith, at), in_order (e.stamp + time_of debounce e.down) (f ∷ es) s.1)

  -- those of a place have their time too
  pub spaced_of : (place ready : ℕ) (es : List Edge) → AreSpaced debounce ready es → AreSpaced debounce ready (of_place place es)
  spaced_of place ready [] s = tt
  spaced_of place ready (e ∷ es) s =
      let rest = spaced_of place (e.stamp + time_of debounce e.down) es s.1 in
      let at = s.0 in
      elim (e.place == place) as (λ b. AreSpaced debounce ready (if b then e ∷ of_place place es else of_place place es)) [
        | true ↦ (at, rest)
        | false ↦ sooner (e.stamp + time_of debounce e.down) ready (of_place place es) (omega (arith, at)) rest
      ]

  -- of edges that each have their time those of one key are far enough apart
  pub dwells : (ready : ℕ) (es : List Edge) → AreSpaced debounce ready es → Dwells es
  dwells ready [] s = tt
  dwells ready (e ∷ []) s = tt
  dwells ready (e ∷ f ∷ es) s =
      let at = s.1.0 in
      let l = slow debounce e.down in
      (omega (arith, at, l), dwells (e.stamp + time_of debounce e.down) (f ∷ es) s.1)

  fifth : (a : Edge) (ready : ℕ) (es : List Edge) → a.stamp + 2240 ≤ ready → AreSpaced debounce ready es → IsFifthLater a es
  fifth a ready [] l s = tt
  fifth a ready (b ∷ []) l s = tt
  fifth a ready (b ∷ c ∷ []) l s = tt
  fifth a ready (b ∷ c ∷ d ∷ []) l s = tt
  fifth a ready (b ∷ c ∷ d ∷ e ∷ es) l s =
      let at_b = s.0 in
      let at_c = s.1.0 in
      let at_d = s.1.1.0 in
      let at_e = s.1.1.1.0 in
      omega (arith, l, at_b, at_c, at_d, at_e)

  -- of edges that each have their time the last of any five in a row is far enough from the first
  pub thin : (ready : ℕ) (es : List Edge) → AreSpaced debounce ready es → IsThin es
  thin ready [] s = tt
  thin ready (e ∷ es) s =
      let l = slow debounce e.down in
      (fifth e (e.stamp + time_of debounce e.down) es (omega (arith, l)) s.1, thin (e.stamp + time_of debounce e.down) es s.1)

  spaced_take : (now : ℕ) (cs : List Call) (q : Queue) (waiting : List Pushed)
      → ((r : Queue) → AreSpaced debounce r.ready (handed debounce cs r))
      → AreSpaced debounce q.ready (if_taken (first_taken now q.ready waiting) ++ handed debounce cs (after_first debounce now waiting q))
  spaced_take now cs q [] rest = rest q
  spaced_take now cs q (e ∷ es) rest =
      let next : Queue = record { waiting = es; down = q.down; ready = now + time_of debounce e.down } in
      elim (nat_lt now (due_at q.ready e.stamp)) as (λ b. nat_lt now (due_at q.ready e.stamp) ≡ b → AreSpaced debounce q.ready
      (if_taken (if b then None else Some (edge_at now e.place e.down)) ++ handed debounce cs (if b then q else next))) [
        | true ↦ λ h. rest q
        | false ↦ λ h. (due_later q.ready e.stamp now h, rest next)
      ] refl

  -- the edges that calls hand over have their time
  pub handed_spaced : (calls : List Call) (q : Queue) → AreSpaced debounce q.ready (handed debounce calls q)
  handed_spaced [] q = tt
  handed_spaced (Push e ∷ cs) q =
      subst (λ ready. AreSpaced debounce ready (handed debounce cs (pushed e q))) (ready_kept e q) (handed_spaced cs (pushed e q))
  handed_spaced (Take now ∷ cs) q = spaced_take now cs q q.waiting (λ r. handed_spaced cs r)
