-- A key's latency: how long it takes from the edge of a key to INT 09h's read of each byte of its code.
use Rattle.std.specs.Prelude.{◌≡◌, ◌≤◌, ◌<◌, ℕ, suc, ◌+◌, ◌*◌, ◌/◌, Bool, true, false, List, [], ◌∷◌, ◌++◌, length}
use Rattle.std.specs.Prelude.{Some, slice_get, Contains, if◌then◌else◌}
use Rattle.std.specs.declared.option.Option.{Option}
use Rattle.board_terms.specs.Cadence.{KeepsCadence, KeepsCadenceTo}
use Rattle.board_terms.specs.declared.event.Edge.{Edge}
use Rattle.model_controller.specs.declared.meeting.Meeting.TheVariants.{Sent}
use Rattle.ctl_core.specs.Translation.{translation}
use Rattle.model_keyboard.specs.Codes.{keys_of}
use Rattle.model_keyboard.specs.Once.{waiting}
use Rattle.model_keyboard.specs.Tick.{is_scanning}
use Rattle.key_file.specs.Histories.{KeyHistory}
use Rattle.layout_reader.specs.Layouts.{KeyLayout}
use Rattle.model_link.specs.Expected.{expected}
use Rattle.model_link.specs.Machine.{keyboard}
use Rattle.model_link.specs.TickEdges.{is_seen}
use Rattle.pc_tables.specs.declared.item.Item.TheVariants.{Port}
use Rattle.law_quiet_log.specs.Once.{at_tick, meeting_at}
use Rattle.law_link_times.specs.Coming.{code_of, edges_at, keyboard_at}
use Rattle.law_link_times.specs.Flowing.{IsHostQuiet, IsQuietFrom}

-- the stamp at which INT 09h reads what arrives in tick n: 64 cycles after its arrival, which is at offset 608
abbrev pub read_stamp : (ℕ → ℕ) → ℕ → ℕ
read_stamp starts n = starts n + 608 + 64

-- what the controller puts out for a byte that arrives in tick n: nothing for F0, the translated code for any other
abbrev pub put_out_in : KeyLayout → KeyHistory → (ℕ → ℕ) → ℕ → ℕ → Option ℕ
put_out_in layout history starts n byte =
    (translation true (at_tick layout history starts n).side.port.core.break_mark byte).byte

-- a byte arrives in tick n; what is put out for it INT 09h reads in the same tick, and the log says so with its number
pub record IsReadIn (layout : KeyLayout) (history : KeyHistory) (starts : ℕ → ℕ) (last n byte : ℕ) : Type 0 where
  pub arrives : meeting_at layout history starts n ≡ Sent byte
  pub reads : (code : ℕ) → put_out_in layout history starts n byte ≡ Some code
      → Contains (at_tick layout history starts (suc n)).side.log
      (record { cycle = 4096 + read_stamp starts n; item = Port code })
  pub says : (code : ℕ) → put_out_in layout history starts n byte ≡ Some code
      → Contains (expected (keyboard layout) history.edges history.host starts last)
      (record { tick = n; item = Port code })

-- with a quiet host so it is of each byte that arrives
abbrev pub ReadsWhatArrives : Type 0
ReadsWhatArrives =
    (layout : KeyLayout) (history : KeyHistory) (starts : ℕ → ℕ) (last n byte : ℕ) → IsHostQuiet history
    → KeepsCadenceTo starts last → n < last → meeting_at layout history starts n ≡ Sent byte
    → IsReadIn layout history starts last n byte

-- bytes are after so many others in a list
pub record IsListedAt (place : ℕ) (bytes list : List ℕ) : Type 0 where
  pub before : List ℕ
  pub afterwards : List ℕ
  pub is : list ≡ before ++ (bytes ++ afterwards)
  pub number : length before ≡ place

-- how many ticks after its reading a key's edge is taken: with a debounce one
abbrev pub settling : KeyLayout → ℕ
settling layout = if layout.debounce then 1 else 0

-- an edge of a key that tick n takes, and the code that it enters, in its layer; no code of that tick is lost
pub record Strikes (layout : KeyLayout) (history : KeyHistory) (starts : ℕ → ℕ) (n : ℕ) (edge : Edge) (code : List ℕ)
    : Type 0 where
  pub reading : ℕ
  pub seen : is_seen starts reading edge ≡ true
  pub taken : n ≡ reading + settling layout
  pub on_fn : Bool
  pub among : Contains (edges_at layout history starts n)
      (record { place = edge.place; down = edge.down; on_fn = on_fn })
  pub sends : code_of (keys_of layout) (record { place = edge.place; down = edge.down; on_fn = on_fn }) ≡ code ∷ []
  pub scanning : is_scanning (keyboard_at layout history starts (suc n)) ≡ true
  pub room : (keyboard_at layout history starts (suc n)).queue.overrun ≡ false

-- without a debounce each edge of the history that tick n sees is among its edges, in one of the two layers
abbrev pub EdgesAreAmong : Type 0
EdgesAreAmong =
    (layout : KeyLayout) (history : KeyHistory) (starts : ℕ → ℕ) (n : ℕ) (edge : Edge)
    → layout.debounce ≡ false → Contains history.edges edge → edge.place < 96 → is_seen starts n edge ≡ true
    → (on_fn : Bool)
    × Contains (edges_at layout history starts n) (record { place = edge.place; down = edge.down; on_fn = on_fn })

-- its code waits at the next tick's start after so many bytes. Byte i of it is read i + place ticks later: at most two
-- ticks and 660 cycles after the edge, and a tick for each byte before it; 16 fewer for each column before the key's.
-- The edge may come a cycle after the read of its column, at offset 16, and so waits for the next tick's; what it
-- enters goes in the tick after that, which may start 5 cycles late: 5 + 608 + 64 - 17. In a run of the compiled image
-- it starts one cycle late at most: 1 + 608 + 64 - 17. With a debounce all of it is a tick later
pub record ComesInTime (layout : KeyLayout) (history : KeyHistory) (starts : ℕ → ℕ) (last n : ℕ) (edge : Edge)
    (code : List ℕ) : Type 0 where
  pub place : ℕ
  pub in_its_place : IsListedAt place code (waiting (keyboard_at layout history starts (suc n)))
  pub reads : (i byte : ℕ) → slice_get code i ≡ Some byte → i + place + suc n < last
      → IsReadIn layout history starts last (i + place + suc n) byte
  pub prompt : (i : ℕ) → i + place + suc n ≤ last
      → starts (i + place + suc n) ≤ 2048 * (i + place + suc n) + 1
      → read_stamp starts (i + place + suc n) + 16 * (edge.place / 8)
      ≤ edge.stamp + 2 * 2048 + 656 + 2048 * (i + place + settling layout)
  pub soon : (i : ℕ) → i + place + suc n ≤ last
      → read_stamp starts (i + place + suc n) + 16 * (edge.place / 8)
      ≤ edge.stamp + 2 * 2048 + 660 + 2048 * (i + place + settling layout)

-- so it is of each edge, with a quiet host
abbrev pub KeysComeInTime : Type 0
KeysComeInTime =
    (layout : KeyLayout) (history : KeyHistory) (starts : ℕ → ℕ) (last n : ℕ) (edge : Edge) (code : List ℕ)
    → IsHostQuiet history → KeepsCadenceTo starts last → n < last → Strikes layout history starts n edge code
    → ComesInTime layout history starts last n edge code

-- and so it is from a tick on, whatever the host did before
abbrev pub KeysComeInTimeFrom : Type 0
KeysComeInTimeFrom =
    (layout : KeyLayout) (history : KeyHistory) (starts : ℕ → ℕ) (first last n : ℕ) (edge : Edge) (code : List ℕ)
    → IsQuietFrom layout history starts first → KeepsCadenceTo starts last → first ≤ n → n < last
    → Strikes layout history starts n edge code → ComesInTime layout history starts last n edge code

-- and of starts that keep the cadence no less would do: if the edge comes one cycle after the read of its column, in a tick that starts at its
-- multiple, and the tick that reads the byte starts five cycles late, it is read just then
pub record IsMet (n before : ℕ) (edge : Edge) : Type 0 where
  pub starts : ℕ → ℕ
  pub cadence : KeepsCadence starts
  pub seen : is_seen starts (suc n) edge ≡ true
  pub read : read_stamp starts (before + suc (suc n)) + 16 * (edge.place / 8)
      ≡ edge.stamp + 2 * 2048 + 660 + 2048 * before

abbrev pub LatencyIsMet : Type 0
LatencyIsMet =
    (n before : ℕ) (edge : Edge) → edge.stamp ≡ 2048 * n + 17 + 16 * (edge.place / 8) → IsMet n before edge
