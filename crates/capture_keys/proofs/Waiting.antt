-- An edge that is pushed into a queue in which none waits, and what is due then.
use Rattle.std.proofs.Common.{◌≡◌, ◌≤◌, ℕ, ◌+◌, Bool, true, false, List, [], ◌∷◌, Some, None, refl, ap, sym, ◌∙◌, arith}
use Rattle.std.specs.Prelude.{nat_le, nat_lt, if◌then◌else◌}
use Rattle.std.proofs.lemmas.Bool.Decides.{nat_tests}
use Rattle.board_terms.specs.Matrix.{turned}
use Rattle.edge_queue.specs.Queue.{Queue, after_taken, due_at, due_of, edge_at, entered, first_due, is_full, is_repeated, pushed, taken, time_of}
use Rattle.edge_queue.specs.declared.queue.Pushed.{Pushed}

-- a queue in which no edge waits, and one in which this waits
abbrev pub idle : List Bool → ℕ → Queue
idle down ready = record { waiting = []; down = down; ready = ready }

abbrev pub one : Pushed → List Bool → ℕ → Queue
one p down ready = record { waiting = p ∷ []; down = turned p.place p.down down; ready = ready }

not_full : (down : Bool) → nat_le (if down then 64 else 160) 0 ≡ false
not_full true = refl
not_full false = refl

-- a push doesn't change when a queue is ready
pub ready_kept : (e : Pushed) (q : Queue) → (pushed e q).ready ≡ q.ready
ready_kept e q =
    elim (is_repeated e q) as (λ b. (if b then q else if is_full e.down q then q else entered e q).ready ≡ q.ready) [
      | true ↦ refl
      | false ↦ elim (is_full e.down q) as (λ b. (if b then q else entered e q).ready ≡ q.ready) [ true ↦ refl | false ↦ refl ]
    ]

-- nothing waits if nothing is due
none_waits : (ready : ℕ) (waiting : List Pushed) → first_due ready waiting ≡ None → waiting ≡ []
none_waits ready [] h = refl
none_waits ready (e ∷ es) h = absurd cc

-- if no edge of a queue is due, none waits in it
pub none_due : (q : Queue) → due_of q ≡ None → q.waiting ≡ []
none_due q h = none_waits q.ready q.waiting h

-- an edge that is due was taken in, and is due as soon as its stamp has come and the queue is ready
pub record IsDue (p : Pushed) (down : List Bool) (ready now : ℕ) : Type 0 where
  pub waits : pushed p (idle down ready) ≡ one p down ready
  pub now_is : now ≡ due_at ready p.stamp

same_now : (x y : ℕ) → Some x ≡ Some y → y ≡ x
same_now x y h = cc

-- if an edge that was pushed into a queue where none waits has a time at which it is due, it was taken in, and that is its time
pub due_is : (p : Pushed) (down : List Bool) (ready now : ℕ) → due_of (pushed p (idle down ready)) ≡ Some now → IsDue p down ready now
due_is p down ready now =
    let q = idle down ready in
    elim (is_repeated p q) as (λ b. (is_repeated p q ≡ b) → due_of (if b then q else if is_full p.down q then q else entered p q) ≡ Some now
    → IsDue p down ready now) [
      | true ↦ λ h due. absurd cc
      | false ↦ λ h due.
          let room : is_full p.down q ≡ false = not_full p.down in
          let enters : pushed p q ≡ one p down ready =
          ap (λ b. if b then q else if is_full p.down q then q else entered p q) h ∙ ap (λ b. if b then q else entered p q) room in
          let at : due_of (one p down ready) ≡ Some now = ap (λ b. due_of (if b then q else entered p q)) (sym room) ∙ due in
          record { waits = enters; now_is = same_now (due_at ready p.stamp) now at }
    ] refl

-- no edge is due before the queue is ready
pub due_later : (ready stamp : ℕ) → ready ≤ due_at ready stamp
due_later ready stamp =
    elim (nat_lt stamp ready) as (λ b. nat_lt stamp ready ≡ b → ready ≤ (if b then ready else stamp)) [
      | true ↦ λ t. omega arith
      | false ↦ λ t. grind (arith, nat_tests, t)
    ] refl

not_before : (now : ℕ) → nat_lt now now ≡ false
not_before now = grind (arith, nat_tests)

-- the one edge of a queue is taken at the time at which it is due
pub taken_now : (p : Pushed) (down : List Bool) (ready : ℕ)
    → taken (due_at ready p.stamp) (one p down ready) ≡ Some (edge_at (due_at ready p.stamp) p.place p.down)
taken_now p down ready =
    ap (λ b. if b then None else Some (edge_at (due_at ready p.stamp) p.place p.down)) (not_before (due_at ready p.stamp))

-- after its one edge was taken, none waits in a queue, and it is ready after that edge's time
pub after_now : (debounce : Bool) (p : Pushed) (down : List Bool) (ready : ℕ)
    → after_taken debounce (due_at ready p.stamp) (one p down ready)
    ≡ idle (turned p.place p.down down) (due_at ready p.stamp + time_of debounce p.down)
after_now debounce p down ready =
    ap (λ b. if b then one p down ready else idle (turned p.place p.down down) (due_at ready p.stamp + time_of debounce p.down))
    (not_before (due_at ready p.stamp))

-- an edge takes at most 4,480 cycles
pub short : (debounce down : Bool) → time_of debounce down ≤ 4480
short true true = omega arith
short true false = omega arith
short false true = omega arith
short false false = omega arith
