-- The edges that a queue hands over are of the matrix, and in the order in which they were let in.
use Rattle.std.proofs.Common.{◌≡◌, ◌<◌, ℕ, ◌+◌, Bool, true, false, List, [], ◌∷◌, ◌++◌, map, Some, None, Ok, Err}
use Rattle.std.proofs.Common.{ap, sym, ◌∙◌, append_assoc}
use Rattle.std.specs.Prelude.{nat_lt, if◌then◌else◌}
use Rattle.std.proofs.lemmas.List.{append-nil, map-append}
use Rattle.board_terms.specs.Laws.{ArePlaces}
use Rattle.edge_queue.specs.Calls.{Call, ArePlaced, after, edge_of, handed, if_queued, if_taken, let_in}
use Rattle.edge_queue.specs.Calls.Call.{Push, Take}
use Rattle.edge_queue.specs.Laws.{key_of}
use Rattle.edge_queue.specs.Queue.{Queue, after_first, answer_of, due_at, edge_at, entered, first_taken, is_full, is_repeated, pushed, time_of}
use Rattle.edge_queue.specs.declared.queue.Pushed.{Pushed}
use Rattle.edge_queue.specs.declared.refusal.NotQueued.TheVariants.{Repeated, Full}

abbrev pub InMatrix : List Pushed → Type 0
InMatrix [] = Unit {0}
InMatrix (e ∷ es) = (e.place < 96) × InMatrix es

in_matrix_on : (es : List Pushed) (e : Pushed) → e.place < 96 → InMatrix es → InMatrix (es ++ e ∷ [])
in_matrix_on [] e l a = (l, tt)
in_matrix_on (x ∷ es) e l a = (a.0, in_matrix_on es e l a.1)

pushed_in : (e : Pushed) (q : Queue) → e.place < 96 → InMatrix q.waiting → InMatrix (pushed e q).waiting
pushed_in e q l a =
    elim (is_repeated e q) as (λ b. InMatrix (if b then q else if is_full e.down q then q else entered e q).waiting) [
      | true ↦ a
      | false ↦ elim (is_full e.down q) as (λ b. InMatrix (if b then q else entered e q).waiting) [
        | true ↦ a
        | false ↦ in_matrix_on q.waiting e l a
      ]
    ]

-- what waits after a push
waits_on : (e : Pushed) (q : Queue) → map edge_of (pushed e q).waiting ≡ map edge_of q.waiting ++ if_queued (answer_of e q) e
waits_on e q =
    elim (is_repeated e q) as (λ b. map edge_of (if b then q else if is_full e.down q then q else entered e q).waiting
    ≡ map edge_of q.waiting ++ if_queued (if b then Err Repeated else if is_full e.down q then Err Full else Ok tt) e) [
      | true ↦ sym (append-nil (map edge_of q.waiting))
      | false ↦ elim (is_full e.down q) as (λ b. map edge_of (if b then q else entered e q).waiting
          ≡ map edge_of q.waiting ++ if_queued (if b then Err Full else Ok tt) e) [
            | true ↦ sym (append-nil (map edge_of q.waiting))
            | false ↦ map-append edge_of q.waiting (e ∷ [])
          ]
    ]

module _ (debounce : Bool) where
  take_in : (now : ℕ) (cs : List Call) (q : Queue) (waiting : List Pushed) → InMatrix q.waiting → InMatrix waiting
      → ((r : Queue) → InMatrix r.waiting → ArePlaces (handed debounce cs r))
      → ArePlaces (if_taken (first_taken now q.ready waiting) ++ handed debounce cs (after_first debounce now waiting q))
  take_in now cs q [] whole a rest = rest q whole
  take_in now cs q (e ∷ es) whole a rest =
      let next : Queue = record { waiting = es; down = q.down; ready = now + time_of debounce e.down } in
      elim (nat_lt now (due_at q.ready e.stamp)) as (λ b. ArePlaces
      (if_taken (if b then None else Some (edge_at now e.place e.down)) ++ handed debounce cs (if b then q else next))) [
        | true ↦ rest q whole
        | false ↦ (a.0, rest next a.1)
      ]

  -- the edges that are handed over are of the matrix, if those that are pushed are
  pub handed_in : (calls : List Call) (q : Queue) → ArePlaced calls → InMatrix q.waiting → ArePlaces (handed debounce calls q)
  handed_in [] q placed a = tt
  handed_in (Push e ∷ cs) q placed a = handed_in cs (pushed e q) placed.1 (pushed_in e q placed.0 a)
  handed_in (Take now ∷ cs) q placed a = take_in now cs q q.waiting a a (λ r b. handed_in cs r placed.1 b)

  abbrev pub IsKept : List Call → Queue → Type 0
  IsKept cs q =
      map key_of (handed debounce cs q ++ map edge_of (after debounce cs q).waiting) ≡ map key_of (map edge_of q.waiting ++ let_in debounce cs q)

  kept_take : (now : ℕ) (cs : List Call) (waiting : List Pushed) (down : List Bool) (ready : ℕ) → ((r : Queue) → IsKept cs r)
      → map key_of ((if_taken (first_taken now ready waiting)
      ++ handed debounce cs (after_first debounce now waiting (record { waiting = waiting; down = down; ready = ready })))
      ++ map edge_of (after debounce cs (after_first debounce now waiting (record { waiting = waiting; down = down; ready = ready }))).waiting)
      ≡ map key_of (map edge_of waiting ++ let_in debounce cs (after_first debounce now waiting (record { waiting = waiting; down = down; ready = ready })))
  kept_take now cs [] down ready rest = rest (record { waiting = []; down = down; ready = ready })
  kept_take now cs (e ∷ es) down ready rest =
      let q : Queue = record { waiting = e ∷ es; down = down; ready = ready } in
      let next : Queue = record { waiting = es; down = down; ready = now + time_of debounce e.down } in
      elim (nat_lt now (due_at ready e.stamp)) as (λ b. map key_of ((if_taken (if b then None else Some (edge_at now e.place e.down))
      ++ handed debounce cs (if b then q else next)) ++ map edge_of (after debounce cs (if b then q else next)).waiting)
      ≡ map key_of (map edge_of (e ∷ es) ++ let_in debounce cs (if b then q else next))) [
        | true ↦ rest q
        | false ↦ ap (λ v. (e.place, e.down) ∷ v) (rest next)
      ]

  -- what was handed over, and then what waits, is what waited and what was let in, in that order
  pub kept : (calls : List Call) (q : Queue) → IsKept calls q
  kept [] q = ap (map key_of) (sym (append-nil (map edge_of q.waiting)))
  kept (Push e ∷ cs) q =
      kept cs (pushed e q)
      ∙ ap (λ v. map key_of (v ++ let_in debounce cs (pushed e q))) (waits_on e q)
      ∙ ap (map key_of) (append_assoc (map edge_of q.waiting) (if_queued (answer_of e q) e) (let_in debounce cs (pushed e q)))
  kept (Take now ∷ cs) q = kept_take now cs q.waiting q.down q.ready (λ r. kept cs r)
