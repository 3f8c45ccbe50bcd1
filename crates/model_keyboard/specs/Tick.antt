-- A tick of the keyboard: five steps, in this order.
use Rattle.std.specs.Prelude.{ℕ, ◌-◌, ◌==◌, Bool, true, false, not, ◌&&◌, ◌||◌, if◌then◌else◌}
use Rattle.std.specs.Prelude.{List, [], ◌∷◌, Some, None, IsSome}
use Rattle.std.specs.declared.option.Option.{Option}
use Rattle.board_terms.specs.Matrix.{turned}
use Rattle.model_keyboard.specs.declared.edge.TickEdge.{TickEdge}
use Rattle.model_keyboard.specs.declared.meeting.Meeting.{Meeting}
use Rattle.model_keyboard.specs.declared.meeting.Meeting.TheVariants.{Got, Inhibited, Idle, Sent, Cut}
use Rattle.model_keyboard.specs.declared.state.Mode.{Mode}
use Rattle.model_keyboard.specs.declared.state.Mode.TheVariants.{Ready, WantRate, WantLights}
use Rattle.model_keyboard.specs.declared.state.Reply.{Reply}
use Rattle.model_keyboard.specs.declared.state.Repeat.{Repeat}
use Rattle.model_keyboard.specs.Codes.{make, release, Keys}
use Rattle.model_keyboard.specs.Queue.{enter, drop_first, clear}
use Rattle.model_keyboard.specs.Typematic.{delay, period}
use Rattle.model_keyboard.specs.Keyboard.{Keyboard, offer}
use Rattle.model_keyboard.specs.Commands.{obeyed}

-- a reset: the test begins again; which places are held stays
abbrev pub reset : Keys → Keyboard → Keyboard
reset keys k = record {
  test = 64;
  enabled = true;
  mode = Ready;
  reply = None;
  aa_due = false;
  last = 0xaa;
  queue = clear k.queue;
  repeats = None;
  rate = keys.rate;
  lights = 0;
  held = k.held;
}

-- step 1: what was offered is sent. It goes from where it was: the reply, else the due AA, else the queue
abbrev pub without_offered : Option Reply → Keys → Keyboard → Keyboard
without_offered (Some reply) keys k = if reply.resets then reset keys k else record k { reply = None }
without_offered None keys k = record k { aa_due = false; queue = if k.aa_due then k.queue else drop_first k.queue }

-- the byte is the last one sent, but for FE
abbrev pub sent_byte : Option ℕ → Keys → Keyboard → Keyboard
sent_byte (Some byte) keys k = without_offered k.reply keys (record k { last = if byte == 0xfe then k.last else byte })
sent_byte None keys k = k

-- steps 1 and 2: the meeting
abbrev pub met : Meeting → Keys → Keyboard → Keyboard
met Sent keys k = sent_byte (offer k) keys k
met (Got byte good) keys k = obeyed keys byte good k
met Inhibited keys k = k
met Idle keys k = k
met Cut keys k = k

-- step 3: if the test ran at the tick's start it has a tick less; at its end AA is due
abbrev pub tested_if : Bool → Keyboard → Keyboard
tested_if true k = record k { test = k.test - 1; aa_due = if k.test == 1 then true else k.aa_due }
tested_if false k = k

-- scanning is on if it is enabled, no parameter is awaited, and the test has ended
abbrev pub is_ready : Mode → Bool
is_ready Ready = true
is_ready WantRate = false
is_ready WantLights = false

abbrev pub is_scanning : Keyboard → Bool
is_scanning k = k.enabled && is_ready k.mode && (k.test == 0)

-- step 4: the key that repeats has a tick less to wait; in its last it is entered, in the layer of its press, unless
-- the line is inhibited, and waits a period
abbrev pub repeated : Option Repeat → Keys → Bool → Keyboard → Keyboard
repeated (Some r) keys inhibited k = record k {
  repeats = Some (record r { count = if r.count == 1 then period k.rate else r.count - 1 });
  queue = if (r.count == 1) && not inhibited then enter (make (keys.code r.on_fn r.place)) k.queue else k.queue;
}
repeated None keys inhibited k = k

-- if scanning is off nothing repeats any more
abbrev pub repeated_if : Bool → Keys → Bool → Keyboard → Keyboard
repeated_if true keys inhibited k = repeated k.repeats keys inhibited k
repeated_if false keys inhibited k = record k { repeats = None }

-- step 5: a release ends the repeating of its own key
abbrev pub ended_at : ℕ → Option Repeat → Option Repeat
ended_at place (Some r) = if r.place == place then None else Some r
ended_at place None = None

-- an edge, by its place, whether the key went down, and its layer, changes what is held; one of the Fn key does no
-- more. If scanning is on, a press enters the make and is the key that repeats; a release enters the break, which a
-- make-only key hasn't
abbrev pub edge_if : Bool → Keys → ℕ → Bool → Bool → Keyboard → Keyboard
edge_if true keys place true on_fn k = record k {
  held = turned place true k.held;
  queue = if keys.is_fn place then k.queue else enter (make (keys.code on_fn place)) k.queue;
  repeats =
      if keys.is_fn place then k.repeats else Some (record { place = place; count = delay k.rate; on_fn = on_fn });
}
edge_if true keys place false on_fn k = record k {
  held = turned place false k.held;
  queue =
      if keys.is_fn place || keys.make_only place then k.queue else enter (release (keys.code on_fn place)) k.queue;
  repeats = if keys.is_fn place then k.repeats else ended_at place k.repeats;
}
edge_if false keys place down on_fn k = record k { held = turned place down k.held }

-- the edges in their order
abbrev pub edges_if : Bool → Keys → List TickEdge → Keyboard → Keyboard
edges_if scanning keys [] k = k
edges_if scanning keys (e ∷ edges) k = edges_if scanning keys edges (edge_if scanning keys e.place e.down e.on_fn k)

-- steps 4 and 5: whether scanning is on is judged once
abbrev pub is_inhibited : Meeting → Bool
is_inhibited Inhibited = true
is_inhibited Idle = false
is_inhibited Cut = false
is_inhibited Sent = false
is_inhibited (Got byte good) = false

abbrev pub scanned : Keys → Bool → List TickEdge → Keyboard → Keyboard
scanned keys inhibited edges k =
    edges_if (is_scanning k) keys edges (repeated_if (is_scanning k) keys inhibited k)

-- the whole tick
abbrev pub ticked : Keys → Meeting → List TickEdge → Keyboard → Keyboard
ticked keys meeting edges k =
    scanned keys (is_inhibited meeting) edges (tested_if (not (k.test == 0)) (met meeting keys k))

-- a byte passes to the system, or is cut off, only if something is offered
abbrev pub IsOffered : Meeting → Option ℕ → Type 0
IsOffered Sent byte = IsSome byte
IsOffered Cut byte = IsSome byte
IsOffered Inhibited byte = Unit {0}
IsOffered Idle byte = Unit {0}
IsOffered (Got command good) byte = Unit {0}
