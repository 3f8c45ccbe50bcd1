-- A queue of edges beside a keyboard: what a push answers, and which edge is handed over in a cycle.
use Rattle.std.specs.Prelude.{ℕ, ◌-◌, ◌^◌, ◌==◌, Bool, not, min, nat_lt, slice_index, None, Some, Ok, Err, if◌then◌else◌}
use Rattle.std.specs.declared.option.Option.{Option}
use Rattle.std.specs.declared.result.Result.{Result}
use Rattle.edge_queue.specs.Queue.{Queue, after_taken, answer_of, edge_at, pushed, taken}
use Rattle.edge_queue.specs.declared.queue.Pushed.{Pushed}
use Rattle.edge_queue.specs.declared.refusal.NotQueued.{NotQueued}
use Rattle.edge_queue.specs.declared.refusal.NotQueued.TheVariants.{Repeated, Full}
use Rattle.fw_kernel.specs.Tables.{debounce_at}
use Rattle.kbd_half.specs.declared.keyboard.KbdHalf.{KbdHalf}
use Rattle.kbd48_halves.specs.Words.{keyed}

-- a push's answer: 1 for an edge that waits now, 2 if the key is so already, 3 if there is no room
abbrev pub queued : Result (Unit {0}) NotQueued → ℕ
queued (Ok done) = 1
queued (Err Repeated) = 2
queued (Err Full) = 3

-- and 0 for a place beyond the 96; then nothing is pushed
abbrev pub push_answer : ℕ → ℕ → Bool → Queue → ℕ
push_answer now place down q = if nat_lt place 96 then queued (answer_of (edge_at now place down) q) else 0

abbrev pub pushed_at : ℕ → ℕ → Bool → Queue → Queue
pushed_at now place down q = if nat_lt place 96 then pushed (edge_at now place down) q else q

-- whether a keyboard's program says that keys are debounced, as a layout's image does
abbrev pub debounces : KbdHalf → Bool
debounces k = not (slice_index k.chip.image.bytes debounce_at == 0)

-- the edge that is handed over in a cycle, and the queue without it. Cycles end before 2 ^ 63
abbrev pub handed : ℕ → Queue → Option Pushed
handed now q = if nat_lt now (2 ^ 63) then taken now q else None

abbrev pub left : ℕ → Bool → Queue → Queue
left now debounce q = if nat_lt now (2 ^ 63) then after_taken debounce now q else q

-- the keyboard with that edge made
abbrev pub with_edge : Option Pushed → KbdHalf → KbdHalf
with_edge None k = k
with_edge (Some e) k = keyed e.place e.down k

-- how many cycles pass until an edge is due, if that is in fewer than these
abbrev pub wait_of : ℕ → ℕ → Option ℕ → ℕ
wait_of most now None = most
wait_of most now (Some due) = min most (due - now)
