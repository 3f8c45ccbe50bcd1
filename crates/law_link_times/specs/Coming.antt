-- Nothing begins to wait twice: what does in a tick is a reply, the AA of the test's end, the codes of its keys and the
-- 00 of an overrun, each once. Nothing of it is read off the state that the tick leaves, but whether scanning is on then, and the rate.
use Rattle.std.specs.Prelude.{◌≡◌, ℕ, ◌+◌, ◌-◌, ◌==◌, nat_lt, nat_le, Bool, not, ◌&&◌, ◌||◌}
use Rattle.std.specs.Prelude.{if◌then◌else◌, List, [], ◌∷◌, ◌++◌, length, map, All, Some, None, is_some}
use Rattle.std.specs.List.Sorted.{IsPermutation}
use Rattle.std.specs.declared.option.Option.{Option}
use Rattle.std.proofs.Common.{zero, suc}
use Rattle.model_controller.specs.declared.meeting.Meeting.{Meeting}
use Rattle.model_controller.specs.declared.meeting.Meeting.TheVariants.{Got, Inhibited, Idle, Sent, Cut}
use Rattle.model_keyboard.specs.declared.edge.TickEdge.{TickEdge}
use Rattle.model_keyboard.specs.declared.state.Mode.{Mode}
use Rattle.model_keyboard.specs.declared.state.Repeat.{Repeat}
use Rattle.model_keyboard.specs.Codes.{IsCode, Keys, keys_of, make, release}
use Rattle.model_keyboard.specs.Keyboard.{Keyboard}
use Rattle.model_keyboard.specs.Laws.{Enters, let_in}
use Rattle.model_keyboard.specs.Layers.{layered}
use Rattle.model_keyboard.specs.Once.{byte_if, clears_queue, is_reset_due, waiting}
use Rattle.model_keyboard.specs.Queue.{KeyQueue, enter, drop_first, clear}
use Rattle.model_keyboard.specs.Typematic.{delay, period}
use Rattle.model_keyboard.specs.Tick.{ended_at, is_ready, is_scanning, is_inhibited}
use Rattle.key_file.specs.Histories.{KeyHistory}
use Rattle.layout_reader.specs.Layouts.{KeyLayout, is_fn_place}
use Rattle.model_link.specs.Machine.{met_as}
use Rattle.model_link.specs.Laws.{taken_in}
use Rattle.law_quiet_log.specs.Once.{left, at_tick, meeting_at, all_arrived, all_taken_away}

-- the byte that answers one from the system: the last byte sent, if FE asks for it; EE if EE does; FA for all
-- other commands, and for a parameter that is awaited; FE for any other byte
abbrev pub reply_to : Mode → ℕ → ℕ → ℕ
reply_to mode byte last =
    if byte == 0xfe then last
    else if byte == 0xee then 0xee
    else if nat_le 0xed byte then 0xfa
    else if not (is_ready mode) && nat_lt byte 0x80 then 0xfa
    else 0xfe

-- what comes before all that waits on: the reply to a byte from the system; AA in the last tick of the test
abbrev pub comes_first : Meeting → Keyboard → List ℕ
comes_first (Got byte) k = reply_to k.mode byte k.last ∷ []
comes_first Inhibited k = []
comes_first Idle k = byte_if ((k.test == 1) && not k.aa_due) 0xaa
comes_first (Sent byte) k = []
comes_first Cut k = []

-- the code of an edge: a press has its key's make; a release its break, which a make-only key hasn't; the Fn key none
abbrev pub code_of : Keys → TickEdge → List (List ℕ)
code_of keys e =
    if keys.is_fn e.place then []
    else if e.down then make (keys.code e.on_fn e.place) ∷ []
    else if keys.make_only e.place then []
    else release (keys.code e.on_fn e.place) ∷ []

-- the codes of edges, in their order
abbrev pub codes_of : Keys → List TickEdge → List (List ℕ)
codes_of keys [] = []
codes_of keys (e ∷ edges) = code_of keys e ++ codes_of keys edges

-- which key still repeats after the meeting: a command that clears the queue ends it, and so does a reset
abbrev pub repeats_still : Meeting → Keyboard → Option Repeat
repeats_still (Got byte) k = if clears_queue byte then None else k.repeats
repeats_still Inhibited k = k.repeats
repeats_still Idle k = k.repeats
repeats_still (Sent byte) k = if is_reset_due k.reply then None else k.repeats
repeats_still Cut k = k.repeats

-- its code: the make, in the last tick of its wait, and not where the line is inhibited
abbrev pub repeat_code : Keys → Bool → Option Repeat → List (List ℕ)
repeat_code keys inhibited None = []
repeat_code keys inhibited (Some r) =
    if (r.count == 1) && not inhibited then make (keys.code r.on_fn r.place) ∷ [] else []

-- the codes of a tick: if scanning is on, the repeat's and then the edges'
abbrev pub tick_codes : Keys → Meeting → List TickEdge → Keyboard → Bool → List (List ℕ)
tick_codes keys meeting edges before scanning =
    if scanning
    then repeat_code keys (is_inhibited (met_as meeting)) (repeats_still meeting before) ++ codes_of keys edges
    else []

-- the queue that the codes enter: a command or a reset may have cleared it; else a byte that was sent has left it,
-- if neither a reply nor AA was due before it
abbrev pub queue_left : Meeting → Keyboard → KeyQueue
queue_left (Got byte) k = if clears_queue byte then clear k.queue else k.queue
queue_left Inhibited k = k.queue
queue_left Idle k = k.queue
queue_left (Sent byte) k =
    if is_reset_due k.reply then clear k.queue
    else if is_some k.reply || k.aa_due then k.queue
    else drop_first k.queue
queue_left Cut k = k.queue

-- the first code that finds no room is reported by 00
abbrev pub overrun_mark : List ℕ → KeyQueue → List ℕ
overrun_mark code q = byte_if (not q.overrun && nat_lt 16 (length q.bytes + length code)) 0x00

-- what codes add to what waits, one after the other: what is let in of each, or the 00
abbrev pub added : List (List ℕ) → KeyQueue → List ℕ
added [] q = []
added (code ∷ codes) q = (let_in (Enters code) q ++ overrun_mark code q) ++ added codes (enter code q)

-- the ticks of the test that are left after a tick: one fewer; a reset begins it again
abbrev pub test_left : Meeting → Keyboard → ℕ
test_left (Got byte) k = k.test - 1
test_left Inhibited k = k.test - 1
test_left Idle k = k.test - 1
test_left (Sent byte) k = if is_reset_due k.reply then 64 else k.test - 1
test_left Cut k = k.test - 1

-- the key that repeats has a tick less to wait; with its code a period begins
abbrev pub waits_less : ℕ → Option Repeat → Option Repeat
waits_less rate None = None
waits_less rate (Some r) = Some (record r { count = if r.count == 1 then period rate else r.count - 1 })

-- an edge: a key that goes down is the one that repeats, a delay from now on; one that goes up repeats no more; the Fn
-- key changes nothing
abbrev pub repeats_by : Keys → ℕ → TickEdge → Option Repeat → Option Repeat
repeats_by keys rate e r =
    if keys.is_fn e.place then r
    else if e.down then Some (record { place = e.place; count = delay rate; on_fn = e.on_fn })
    else ended_at e.place r

abbrev pub repeats_then : Keys → ℕ → List TickEdge → Option Repeat → Option Repeat
repeats_then keys rate [] r = r
repeats_then keys rate (e ∷ edges) r = repeats_then keys rate edges (repeats_by keys rate e r)

-- an edge without its layer: its place, and whether its key went down
abbrev pub change_in : TickEdge → ℕ × Bool
change_in e = (e.place, e.down)

-- the model of a layout and a history in tick n: its keyboard, the edges that it takes, and what they add
module _ (layout : KeyLayout) (history : KeyHistory) (starts : ℕ → ℕ) where
  abbrev pub keyboard_at : ℕ → Keyboard
  keyboard_at n = (at_tick layout history starts n).keys.keyboard

  abbrev pub edges_at : ℕ → List TickEdge
  edges_at n =
      layered (is_fn_place layout) (taken_in layout history.edges history.host starts n)
      (at_tick layout history starts n).keys.layers

  abbrev pub codes_at : ℕ → List (List ℕ)
  codes_at n =
      tick_codes (keys_of layout) (meeting_at layout history starts n) (edges_at n) (keyboard_at n)
      (is_scanning (keyboard_at (suc n)))

  abbrev pub first_at : ℕ → List ℕ
  first_at n = comes_first (meeting_at layout history starts n) (keyboard_at n)

  abbrev pub rest_at : ℕ → List ℕ
  rest_at n = left (meeting_at layout history starts n) (keyboard_at n)

  abbrev pub after_at : ℕ → List ℕ
  after_at n = added (codes_at n) (queue_left (meeting_at layout history starts n) (keyboard_at n))

  abbrev pub repeats_at : ℕ → Option Repeat
  repeats_at n =
      let after : Keyboard = keyboard_at (suc n) in
      let still : Option Repeat = repeats_still (meeting_at layout history starts n) (keyboard_at n) in
      if is_scanning after
      then repeats_then (keys_of layout) after.rate (edges_at n) (waits_less after.rate still)
      else None

  -- what comes in so many ticks from one on
  abbrev pub all_come : ℕ → ℕ → List ℕ
  all_come n zero = []
  all_come n (suc count) = all_come n count ++ (first_at (count + n) ++ after_at (count + n))

-- after a tick there waits what comes first, then the rest of what waited, and then what its codes added, and nothing
-- else. Its edges are those that it takes, each once, and so its codes are, of which each is one byte, or F0 and one;
-- the test has a tick less; the key that repeats has one less too, and waits a period after its code: so AA and a
-- repeat come once each time
pub record IsExact (layout : KeyLayout) (history : KeyHistory) (starts : ℕ → ℕ) (n : ℕ) : Type 0 where
  pub waits : waiting (keyboard_at layout history starts (suc n))
      ≡ first_at layout history starts n ++ (rest_at layout history starts n ++ after_at layout history starts n)
  pub test : (keyboard_at layout history starts (suc n)).test
      ≡ test_left (meeting_at layout history starts n) (keyboard_at layout history starts n)
  pub codes : All IsCode (codes_at layout history starts n)
  pub edges : map change_in (edges_at layout history starts n) ≡ taken_in layout history.edges history.host starts n
  pub repeats : (keyboard_at layout history starts (suc n)).repeats ≡ repeats_at layout history starts n

-- so it is in each tick of each run
abbrev pub ComesExactly : Type 0
ComesExactly = (layout : KeyLayout) (history : KeyHistory) (starts : ℕ → ℕ) (n : ℕ) → IsExact layout history starts n

-- over any ticks in a row: what waited and all that comes has arrived, or was taken away, or waits still, each once
abbrev pub AllComesOnce : Type 0
AllComesOnce =
    (layout : KeyLayout) (history : KeyHistory) (starts : ℕ → ℕ) (n count : ℕ)
    → IsPermutation (waiting (keyboard_at layout history starts n) ++ all_come layout history starts n count)
    (all_arrived layout history starts n count
    ++ (all_taken_away layout history starts n count ++ waiting (keyboard_at layout history starts (count + n))))

-- from power-on, when nothing waits: all that comes, and nothing else
abbrev pub NothingElseArrives : Type 0
NothingElseArrives =
    (layout : KeyLayout) (history : KeyHistory) (starts : ℕ → ℕ) (n : ℕ)
    → IsPermutation (all_come layout history starts 0 n)
    (all_arrived layout history starts 0 n
    ++ (all_taken_away layout history starts 0 n ++ waiting (keyboard_at layout history starts n)))
