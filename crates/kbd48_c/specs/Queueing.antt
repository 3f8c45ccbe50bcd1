-- What C does with a queue of edges.
use Rattle.std.specs.Prelude.{◌≡◌, ◌^◌, ◌-◌, ℕ, ℤ, pos, nat_lt, nat_le, ◌&&◌, Bool, not, ◌==◌, if◌then◌else◌}
use Rattle.std.specs.Prelude.{length, slice_index, Option, Some, None, Ok, Err}
use Rattle.std.specs.declared.result.Result.{Result}
use Rattle.edge_queue.specs.Queue.{Queue, after_taken, answer_of, due_of, edge_at, pushed, taken}
use Rattle.edge_queue.specs.declared.queue.Pushed.{Pushed}
use Rattle.edge_queue.specs.declared.refusal.NotQueued.{NotQueued}
use Rattle.edge_queue.specs.declared.refusal.NotQueued.TheVariants as whys
use Rattle.fw_kernel.specs.Tables.{debounce_at}
use Rattle.live_board.specs.Calls.{pressed_now}
use Rattle.live_board.specs.Pasts.{Past}
use Rattle.live_board.specs.Running.{at_rise}
use Rattle.live_board.specs.States.{HasPast}
use Rattle.live_board.specs.declared.parts.Parts.{Parts as Keyboard}
use Rattle.live_board.specs.declared.ran.RunEnd.{RunEnd}
use Rattle.live_board.specs.declared.ran.RunEnd.TheVariants as ends
use Rattle.kbd48_c.specs.Exports.{HasGone}
use Rattle.kbd48_c.specs.Statuses.{done, full, no_such_place, over, rose, stuck}
use Rattle.kbd48_c.specs.declared.going.Spot.{Spot}

-- two more statuses: the key is so already; and the next edge of the queue is due
abbrev pub repeated : ℤ
repeated = pos 16

abbrev pub key_due : ℤ
key_due = pos 17

-- the status of an edge that was pushed
abbrev pub queued_status : Result (Unit {0}) NotQueued → ℤ
queued_status (Ok queued) = done
queued_status (Err whys.Repeated) = repeated
queued_status (Err whys.Full) = full

-- an edge of a place, of which there are 96, is pushed with the stamp of a cycle. Cycle 4,096 is stamp 0
abbrev pub push_status : ℕ → ℕ → Bool → Queue → ℤ
push_status cycle place down q =
    if nat_lt place 96 then queued_status (answer_of (edge_at (cycle - 4096) place down) q) else no_such_place

abbrev pub queue_after : ℕ → ℕ → Bool → Queue → Queue
queue_after cycle place down q = if nat_lt place 96 then pushed (edge_at (cycle - 4096) place down) q else q

-- a keyboard takes an edge from stamp 0 on, unless four edges wait or the count of cycles is at its end
abbrev pub may_take : Keyboard → Bool
may_take k =
    nat_le 4096 k.joint.cycle && nat_lt k.joint.cycle (2 ^ 62) && nat_lt (length k.due.edges.items) 4

-- whether a keyboard's program says that keys are debounced, as a layout's image does
abbrev pub debounces : Keyboard → Bool
debounces k = not (slice_index k.joint.image.bytes debounce_at == 0)

-- the edge that is handed to a keyboard now, and the queue without it
abbrev pub handed_now : Queue → Keyboard → Option Pushed
handed_now q k = if may_take k then taken (k.joint.cycle - 4096) q else None

abbrev pub left_now : Queue → Keyboard → Queue
left_now q k = if may_take k then after_taken (debounces k) (k.joint.cycle - 4096) q else q

-- the past with that edge, whose stamp is this moment
abbrev pub past_with : Option Pushed → Keyboard → Past → Past
past_with None k p = p
past_with (Some e) k p = if nat_lt e.place 96 then pressed_now p k e.place e.down else p

-- the edge that is due is handed over; no step is made
pub record HandsOver (q : Queue) (k : Keyboard) (left : Queue) (after : Keyboard) : Type 0 where
  pub taken : left ≡ left_now q k
  pub has_past : (p : Past) → HasPast p k → HasPast (past_with (handed_now q k) k p) after
  pub joint : after.joint ≡ k.joint
  pub heard : after.heard ≡ k.heard

-- how many of these cycles pass until an edge is due; one if it is due already
abbrev pub wait_for : ℕ → ℕ → ℕ
wait_for due now = if nat_lt now due then due - now else 1

abbrev pub room_until : ℕ → ℕ → Option ℕ → ℕ
room_until cycles now None = cycles
room_until cycles now (Some due) = if nat_lt (wait_for due now) cycles then wait_for due now else cycles

abbrev pub room_of : ℕ → Queue → Keyboard → ℕ
room_of cycles q k = room_until cycles (k.joint.cycle - 4096) (due_of q)

-- why a run ended: the next edge is due before so many cycles have passed, or as any run
abbrev pub keyed_status : ℕ → ℕ → RunEnd → ℤ
keyed_status cycles passed ends.Passed = if nat_lt passed cycles then key_due else done
keyed_status cycles passed (ends.Met what) = rose
keyed_status cycles passed ends.LastCycle = over
keyed_status cycles passed (ends.Stuck place) = stuck

-- the edge that is due is handed over, and then a run goes on to the next one, or until so many cycles have passed
pub record HasGoneKeyed (cycles : ℕ) (watched : Bool) (passed : ℕ) (before spot : Spot) (q left : Queue) (k : Keyboard)
    (status : ℤ) (after : Keyboard) : Type 0 where
  pub middle : Keyboard
  pub hands : HandsOver q k left middle
  pub end : RunEnd
  pub is_status : status ≡ keyed_status cycles passed end
  pub gone : HasGone (at_rise watched) (room_of cycles left middle) None end passed before spot middle after
