-- A queue of edges: what it holds, what goes in, and when an edge is due.
use Rattle.std.specs.Prelude.{ℕ, zero, suc, ◌+◌, nat_lt, nat_le, Bool, false, not, ◌&&◌, if◌then◌else◌}
use Rattle.std.specs.Prelude.{List, [], ◌∷◌, ◌++◌, length, take, slice_index_or, Some, None, Ok, Err}
use Rattle.std.specs.declared.option.Option.{Option}
use Rattle.std.specs.declared.result.Result.{Result}
use Rattle.board_terms.specs.Matrix.{all_up, turned}
use Rattle.edge_queue.specs.declared.queue.EdgeQueue.{EdgeQueue}
use Rattle.edge_queue.specs.declared.queue.Pushed.{Pushed}
use Rattle.edge_queue.specs.declared.refusal.NotQueued.{NotQueued}
use Rattle.edge_queue.specs.declared.refusal.NotQueued.TheVariants.{Repeated, Full}

-- the edges that wait, in the order in which they were pushed; whether the key at each place is down after all of them;
-- and the stamp from which on the next edge may be handed over
pub record Queue : Type 0 where
  pub waiting : List Pushed
  pub down : List Bool
  pub ready : ℕ

-- no edge waits, and all keys are up
abbrev pub empty : Queue
empty = record { waiting = []; down = all_up; ready = 0 }

-- the queue that the fields are
abbrev pub queue_of : EdgeQueue → Queue
queue_of q = record { waiting = take q.count q.edges; down = q.down; ready = q.ready }

abbrev pub edge_at : ℕ → ℕ → Bool → Pushed
edge_at stamp place down = record { stamp = stamp; place = place; down = down }

-- whether the key at a place is down after all edges that wait
abbrev pub is_down : Queue → ℕ → Bool
is_down q place = slice_index_or q.down place false

-- whether it is so already: down, or up
abbrev pub is_repeated : Pushed → Queue → Bool
is_repeated e q = if e.down then is_down q e.place else not (is_down q e.place)

-- there is no room: 64 edges wait and a key goes down, or 160 wait
abbrev pub is_full : Bool → Queue → Bool
is_full down q = nat_le (if down then 64 else 160) (length q.waiting)

-- an edge is refused if the key is so already, or if there is no room
abbrev pub answer_of : Pushed → Queue → Result (Unit {0}) NotQueued
answer_of e q =
    if is_repeated e q then Err Repeated else if is_full e.down q then Err Full else Ok tt

-- one that isn't refused waits after the others
abbrev pub entered : Pushed → Queue → Queue
entered e q = record { waiting = q.waiting ++ e ∷ []; down = turned e.place e.down q.down; ready = q.ready }

abbrev pub pushed : Pushed → Queue → Queue
pushed e q = if is_repeated e q then q else if is_full e.down q then q else entered e q

-- each of the first places is released, one after the other: a key that is up stays up
abbrev pub released_to : ℕ → ℕ → Queue → Queue
released_to zero stamp q = q
released_to (suc n) stamp q = pushed (edge_at stamp n false) (released_to n stamp q)

unfoldable pub all_released : ℕ → Queue → Queue
all_released stamp q = released_to 96 stamp q

-- how long an edge takes: the keyboard looks at its keys once in 2,048 cycles and sends one byte from one look to the
-- next. A press is one byte, and a release two. With a debounce each takes two looks, since both must show it
abbrev pub time_of : Bool → Bool → ℕ
time_of debounce down = if down && not debounce then 2240 else 4480

-- an edge is due as soon as it has happened and the edge before it has had its time
abbrev pub due_at : ℕ → ℕ → ℕ
due_at ready stamp = if nat_lt stamp ready then ready else stamp

-- when the first is due, if one waits
abbrev pub first_due : ℕ → List Pushed → Option ℕ
first_due ready [] = None
first_due ready (e ∷ es) = Some (due_at ready e.stamp)

abbrev pub due_of : Queue → Option ℕ
due_of q = first_due q.ready q.waiting

-- what is handed over at a stamp: the first edge, with that stamp, if it is due
abbrev pub first_taken : ℕ → ℕ → List Pushed → Option Pushed
first_taken now ready [] = None
first_taken now ready (e ∷ es) = if nat_lt now (due_at ready e.stamp) then None else Some (edge_at now e.place e.down)

abbrev pub taken : ℕ → Queue → Option Pushed
taken now q = first_taken now q.ready q.waiting

-- after that it waits no longer, and its time begins
module _ (debounce : Bool) where
  abbrev pub without_first : ℕ → List Pushed → Queue → Queue
  without_first now [] q = q
  without_first now (e ∷ es) q = record { waiting = es; down = q.down; ready = now + time_of debounce e.down }

  abbrev pub after_first : ℕ → List Pushed → Queue → Queue
  after_first now [] q = q
  after_first now (e ∷ es) q =
      if nat_lt now (due_at q.ready e.stamp) then q
      else record { waiting = es; down = q.down; ready = now + time_of debounce e.down }

  abbrev pub after_taken : ℕ → Queue → Queue
  after_taken now q = after_first now q.waiting q
