-- The keys that codes move on a layout, and when.
--
-- A key file takes its stamps from the capture: one is 2.5 µs. The first edge has the stamp at which a typed text begins,
-- after the keyboard's test. An edge that would come too soon for the keyboard to see it waits in a queue, as
-- `edge_queue` says.
use Rattle.std.specs.Prelude.{ℕ, ◌+◌, ◌-◌, ◌/◌, Bool, true, false, not, ◌&&◌, ◌==◌, nat_lt, List, [], ◌∷◌, ◌++◌}
use Rattle.std.specs.Prelude.{length, find, replicate, slice_index_or, slice_set}
use Rattle.std.specs.Prelude.{Option, Some, None, unwrap_or, if◌then◌else◌}
use Rattle.pc_tables.specs.Keys.{code_at as code_of_key}
use Rattle.layout_reader.specs.declared.entry.Entry.{Entry}
use Rattle.layout_reader.specs.Layouts.{KeyLayout}
use Rattle.law_typed_log.specs.Typing.{stroke_start}
use Rattle.edge_queue.specs.Queue.{Queue, after_taken, due_of, edge_at, empty, pushed, taken}
use Rattle.edge_queue.specs.declared.queue.Pushed.{Pushed}
use Rattle.capture_keys.specs.declared.codes.Code.{Code}
use Rattle.capture_keys.specs.declared.key_line.KeyLine.{KeyLine}
use Rattle.capture_keys.specs.declared.key_line.KeyLine.TheVariants.{Turned, Unsent}

-- the key that sends a code: the first of the layout that does so without Fn
abbrev pub is_sent : ℕ → Option ℕ → Bool
is_sent code None = false
is_sent code (Some key) = code_of_key key == code

abbrev pub sends : ℕ → Entry → Bool
sends code entry = is_sent code entry.sends

unfoldable pub entry_of : ℕ → List Entry → Option Entry
entry_of code entries = find (sends code) entries

-- the queue of edges; the time of the first edge, in nanoseconds; which codes were named in comments; the lines so far;
-- and whether something found no room
pub record Keys : Type 0 where
  pub queue : Queue
  pub origin : Option ℕ
  pub named : List Bool
  pub lines : List KeyLine
  pub full : Bool

abbrev pub at_start : Keys
at_start = record { queue = empty; origin = None; named = replicate 256 false; lines = []; full = false }

-- the stamp of a time
abbrev pub origin_at : ℕ → Keys → ℕ
origin_at time k = unwrap_or k.origin time

abbrev pub stamp_at : ℕ → ℕ → ℕ
stamp_at origin time = stroke_start 0 + (time - origin) / 2500

-- there is room for 65,536 lines. The last stamp of an edge leaves time for it and for the end within 600 seconds
abbrev pub has_room : Keys → Bool
has_room k = not k.full && nat_lt (length k.lines) 65536

abbrev pub filled : Keys → Keys
filled k = record k { full = true }

abbrev pub last_stamp : ℕ
last_stamp = 239975040

-- an edge is pushed into the queue, which refuses it if the key is so already
abbrev pub with_edge : ℕ → Entry → Bool → Keys → Keys
with_edge time e down k =
    record k { queue = pushed (edge_at (stamp_at (origin_at time k) time) e.place down) k.queue }

-- and it is handed over as soon as it is due
abbrev pub turned_line : Entry → Option Pushed → List KeyLine
turned_line e None = []
turned_line e (Some p) = Turned e p ∷ []

abbrev pub handed_at : Bool → ℕ → Entry → ℕ → Keys → Keys
handed_at debounce time e now k = record k {
  queue = after_taken debounce now k.queue;
  origin = Some (origin_at time k);
  lines = k.lines ++ turned_line e (taken now k.queue);
}

abbrev pub handed_over : Bool → ℕ → Entry → Option ℕ → Keys → Keys
handed_over debounce time e None k = k
handed_over debounce time e (Some now) k =
    if nat_lt last_stamp now then filled k else handed_at debounce time e now k

-- a key goes down or up
abbrev pub turned : Bool → ℕ → Entry → Bool → Keys → Keys
turned debounce time e down k =
    if has_room k
    then handed_over debounce time e (due_of (with_edge time e down k).queue) (with_edge time e down k)
    else filled k

-- the code of a key; if the key sends no break, it goes up at once
abbrev pub is_struck : Code → Entry → Bool
is_struck c e = c.down && e.make_only

abbrev pub struck : Bool → Code → Entry → Keys → Keys
struck debounce c e k =
    if is_struck c e then turned debounce c.time e false (turned debounce c.time e c.down k)
    else turned debounce c.time e c.down k

-- a code that no key sends is named once
abbrev pub unsent : ℕ → Keys → Keys
unsent code k =
    if slice_index_or k.named code false then k
    else if has_room k
    then record k { named = slice_set k.named code true; lines = k.lines ++ Unsent code ∷ [] }
    else filled k

-- a code
abbrev pub moved : KeyLayout → Code → Option Entry → Keys → Keys
moved layout c None k = unsent c.byte k
moved layout c (Some e) k = struck layout.debounce c e k

abbrev pub typed : KeyLayout → Option Code → Keys → Keys
typed layout None k = k
typed layout (Some c) k = moved layout c (entry_of c.byte layout.entries) k
