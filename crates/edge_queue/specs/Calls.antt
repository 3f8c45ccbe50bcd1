-- Calls of a queue, one after another, and the edges that they hand over to a keyboard with a debounce or without.
use Rattle.std.specs.Prelude.{◌<◌, ℕ, Bool, List, [], ◌∷◌, ◌++◌, Some, None, Ok, Err}
use Rattle.std.specs.declared.option.Option.{Option}
use Rattle.std.specs.declared.result.Result.{Result}
use Rattle.board_terms.specs.declared.event.Edge.{Edge}
use Rattle.edge_queue.specs.Queue.{Queue, after_taken, answer_of, pushed, taken}
use Rattle.edge_queue.specs.declared.queue.Pushed.{Pushed}
use Rattle.edge_queue.specs.declared.refusal.NotQueued.{NotQueued}

-- an edge is pushed, or the edge that is due at a stamp is taken. A release of all keys is 96 pushes
pub data Call : Type 0 where
  Push : Pushed → Call
  Take : ℕ → Call

abbrev pub after_call : Bool → Call → Queue → Queue
after_call debounce (Push e) q = pushed e q
after_call debounce (Take now) q = after_taken debounce now q

-- the queue after calls
abbrev pub after : Bool → List Call → Queue → Queue
after debounce [] q = q
after debounce (c ∷ cs) q = after debounce cs (after_call debounce c q)

-- an edge of a key as the keyboard has it
abbrev pub edge_of : Pushed → Edge
edge_of e = record { stamp = e.stamp; place = e.place; down = e.down }

abbrev pub if_taken : Option Pushed → List Edge
if_taken None = []
if_taken (Some e) = edge_of e ∷ []

abbrev pub handed_by : Call → Queue → List Edge
handed_by (Push e) q = []
handed_by (Take now) q = if_taken (taken now q)

-- the edges that calls hand over, in order
abbrev pub handed : Bool → List Call → Queue → List Edge
handed debounce [] q = []
handed debounce (c ∷ cs) q = handed_by c q ++ handed debounce cs (after_call debounce c q)

abbrev pub if_queued : Result (Unit {0}) NotQueued → Pushed → List Edge
if_queued (Ok done) e = edge_of e ∷ []
if_queued (Err why) e = []

abbrev pub let_in_by : Call → Queue → List Edge
let_in_by (Push e) q = if_queued (answer_of e q) e
let_in_by (Take now) q = []

-- the edges that were pushed and not refused, in order
abbrev pub let_in : Bool → List Call → Queue → List Edge
let_in debounce [] q = []
let_in debounce (c ∷ cs) q = let_in_by c q ++ let_in debounce cs (after_call debounce c q)

-- what is pushed are edges of places of the matrix
abbrev pub IsPlaced : Call → Type 0
IsPlaced (Push e) = e.place < 96
IsPlaced (Take now) = Unit {0}

abbrev pub ArePlaced : List Call → Type 0
ArePlaced [] = Unit {0}
ArePlaced (c ∷ cs) = IsPlaced c × ArePlaced cs
