-- Exactly once: a byte arrives at the controller in the tick in which the keyboard takes it away, and nowhere else.
use Rattle.std.specs.Prelude.{◌≡◌, ◌≤◌, ◌<◌, ℕ, ◌+◌, ◌⊎◌, Bool, false, not, ◌&&◌, if◌then◌else◌}
use Rattle.std.specs.Prelude.{List, [], ◌∷◌, ◌++◌, length, drop, Some, None}
use Rattle.std.specs.List.Sorted.{IsPermutation}
use Rattle.std.proofs.Common.{zero, suc}
use Rattle.board_terms.specs.declared.event.HostEvent.{HostEvent}
use Rattle.model_controller.specs.declared.UnderWay.{UnderWay}
use Rattle.model_controller.specs.ByteTime.{Arrives, arriving, happened_at}
use Rattle.ctl_link.specs.Link.{is_busy, received}
use Rattle.ctl_link.specs.declared.link.Link.TheVariants.{Busy}
use Rattle.ctl_link.specs.declared.port.LinkEnd.{LinkEnd}
use Rattle.model_controller.specs.declared.meeting.Meeting.{Meeting}
use Rattle.model_controller.specs.declared.meeting.Meeting.TheVariants.{Got, Inhibited, Idle, Sent, Cut}
use Rattle.key_file.specs.Histories.{KeyHistory}
use Rattle.layout_reader.specs.Layouts.{KeyLayout}
use Rattle.model_keyboard.specs.Queue.{KeyQueue, clear}
use Rattle.model_keyboard.specs.Keyboard.{Keyboard, offer}
use Rattle.model_keyboard.specs.Laws.{thrown, Clears}
use Rattle.model_keyboard.specs.Once.{byte_if, clears_queue, is_reset_due, queued, reply_bytes, waiting, Extends}
use Rattle.model_link.specs.Machine.{LayeredKeyboard, keyboard}
use Rattle.model_link.specs.Expected.{Whole, meeting_from, whole_tick, whole_at}
use Rattle.model_link.specs.Laws.{ended_by, event_at}

-- of a tick's cycles a byte may arrive in one alone, if the keyboard's byte has begun, and that byte. It arrives,
-- whole or wrong by the flip that its frame took, if it is still under way, and then it is sent; one that was broken
-- off doesn't arrive, and was cut
pub record ArrivalLaw : Type 0 where
  pub arrives : (byte : ℕ) → event_at (Sent byte) 608 ≡ Arrives byte
  pub only : (begins : Meeting) (offset byte : ℕ) → event_at begins offset ≡ Arrives byte
      → (begins ≡ Sent byte) × (offset ≡ 608)
  pub under_way : (now byte : ℕ) (p : LinkEnd UnderWay) (u : UnderWay) → p.link ≡ Busy u
      → (happened_at now (Arrives byte) p ≡ received now (arriving u.flip byte) p)
      × (ended_by (Sent byte) p.link ≡ Sent byte)
  pub broken_off : (now byte : ℕ) (p : LinkEnd UnderWay) → is_busy p.link ≡ false
      → (happened_at now (Arrives byte) p ≡ p) × (ended_by (Sent byte) p.link ≡ Cut)

-- what arrives is what the keyboard offered as the tick began, once its test had ended
abbrev pub ArrivesAsOffered : Type 0
ArrivesAsOffered =
    (layout : KeyLayout) (events : List HostEvent) (start byte : ℕ) (w : Whole LayeredKeyboard)
    → meeting_from (keyboard layout) events start w ≡ Sent byte
    → (w.keys.keyboard.test ≡ 0) × (offer w.keys.keyboard ≡ Some byte)

-- what arrives in a tick with this meeting
abbrev pub arrived : Meeting → List ℕ
arrived (Got byte) = []
arrived Inhibited = []
arrived Idle = []
arrived (Sent byte) = byte ∷ []
arrived Cut = []

-- a clearing of the queue takes its bytes away, but for the code of a break that is started, and the 00 of an overrun
abbrev pub cleared_away : KeyQueue → List ℕ
cleared_away q = thrown Clears q ++ byte_if q.overrun 0x00

-- what else a tick with this meeting takes away: the reply to a command takes the place of one that waited, and three
-- commands clear the queue; a reset, made once its reply is sent, takes a due AA away and clears the queue
abbrev pub taken_away : Meeting → Keyboard → List ℕ
taken_away (Got byte) k = reply_bytes k.reply ++ (if clears_queue byte then cleared_away k.queue else [])
taken_away Inhibited k = []
taken_away Idle k = []
taken_away (Sent byte) k = if is_reset_due k.reply then byte_if k.aa_due 0xaa ++ cleared_away k.queue else []
taken_away Cut k = []

-- the rest of what waited, in its order
abbrev pub left : Meeting → Keyboard → List ℕ
left (Got byte) k = byte_if k.aa_due 0xaa ++ queued (if clears_queue byte then clear k.queue else k.queue)
left Inhibited k = waiting k
left Idle k = waiting k
left (Sent byte) k = if is_reset_due k.reply then queued (clear k.queue) else drop 1 (waiting k)
left Cut k = waiting k

-- what comes to be before the rest: the reply to a command; AA, as the test ends
abbrev pub put_before : Meeting → Keyboard → Keyboard → List ℕ
put_before (Got byte) before after = reply_bytes after.reply
put_before Inhibited before after = []
put_before Idle before after = byte_if (after.aa_due && not before.aa_due) 0xaa
put_before (Sent byte) before after = []
put_before Cut before after = []

-- a tick of the keyboard: what arrives is the first that waited; each byte that waited arrives, or is taken away, or is
-- among the rest, and is so once; the rest waits on in its order, and all else that is new is after it
pub record Passes (meeting : Meeting) (before after : Keyboard) : Type 0 where
  pub first : Extends (arrived meeting) (waiting before)
  pub each : IsPermutation (waiting before) (arrived meeting ++ (taken_away meeting before ++ left meeting before))
  pub rest : Extends (put_before meeting before after ++ left meeting before) (waiting after)

-- no reply waits while the test runs
abbrev pub IsSilentInTest : Keyboard → Type 0
IsSilentInTest k = (k.test ≡ 0) ⊎ (k.reply ≡ None)

-- so it is in each tick of a layout's keyboard, whatever its meeting
abbrev pub EachByteOnce : Type 0
EachByteOnce =
    (layout : KeyLayout) (events : List HostEvent) (edges : List (ℕ × Bool)) (start rest : ℕ)
    (w : Whole LayeredKeyboard)
    → IsSilentInTest w.keys.keyboard
    → Passes (meeting_from (keyboard layout) events start w) w.keys.keyboard
    (whole_tick (keyboard layout) events edges start rest w).keys.keyboard

-- what was cut off, before it began or under way, is offered again
abbrev pub CutIsOffered : Type 0
CutIsOffered =
    (layout : KeyLayout) (events : List HostEvent) (edges : List (ℕ × Bool)) (start rest byte : ℕ)
    (w : Whole LayeredKeyboard)
    → meeting_from (keyboard layout) events start w ≡ Cut → offer w.keys.keyboard ≡ Some byte
    → offer (whole_tick (keyboard layout) events edges start rest w).keys.keyboard ≡ Some byte

-- the model of a layout and a history at tick n, and the meeting of that tick
abbrev pub at_tick : KeyLayout → KeyHistory → (ℕ → ℕ) → ℕ → Whole LayeredKeyboard
at_tick layout history starts n = whole_at (keyboard layout) history.edges history.host starts n

abbrev pub meeting_at : KeyLayout → KeyHistory → (ℕ → ℕ) → ℕ → Meeting
meeting_at layout history starts n =
    meeting_from (keyboard layout) history.host (4096 + starts n) (at_tick layout history starts n)

-- in each run the keyboard is so
abbrev pub SilentInTest : Type 0
SilentInTest =
    (layout : KeyLayout) (history : KeyHistory) (starts : ℕ → ℕ) (n : ℕ)
    → IsSilentInTest (at_tick layout history starts n).keys.keyboard

-- what begins to wait in a tick: before the rest, and after it
abbrev pub came : Meeting → Keyboard → Keyboard → List ℕ
came meeting before after =
    let first : List ℕ = put_before meeting before after in
    first ++ drop (length (first ++ left meeting before)) (waiting after)

-- what arrives, what else is taken away and what begins to wait in so many ticks from one on
module _ (layout : KeyLayout) (history : KeyHistory) (starts : ℕ → ℕ) (n : ℕ) where
  abbrev pub all_arrived : ℕ → List ℕ
  all_arrived zero = []
  all_arrived (suc count) = all_arrived count ++ arrived (meeting_at layout history starts (count + n))

  abbrev pub all_taken_away : ℕ → List ℕ
  all_taken_away zero = []
  all_taken_away (suc count) =
      all_taken_away count
      ++ taken_away (meeting_at layout history starts (count + n))
      (at_tick layout history starts (count + n)).keys.keyboard

  abbrev pub all_came : ℕ → List ℕ
  all_came zero = []
  all_came (suc count) =
      all_came count
      ++ came (meeting_at layout history starts (count + n)) (at_tick layout history starts (count + n)).keys.keyboard
      (at_tick layout history starts (suc count + n)).keys.keyboard

-- over any ticks in a row: each byte that waited or came to wait has arrived, or was taken away by a command or a
-- reset, or waits still, and it is so once
abbrev pub AllCounted : Type 0
AllCounted =
    (layout : KeyLayout) (history : KeyHistory) (starts : ℕ → ℕ) (n count : ℕ)
    → IsPermutation (waiting (at_tick layout history starts n).keys.keyboard ++ all_came layout history starts n count)
    (all_arrived layout history starts n count
    ++ (all_taken_away layout history starts n count
    ++ waiting (at_tick layout history starts (count + n)).keys.keyboard))

-- what waits after the reply
abbrev pub line : Keyboard → List ℕ
line k = byte_if k.aa_due 0xaa ++ queued k.queue

-- a tick with this meeting clears nothing
abbrev pub ClearsNothing : Meeting → Keyboard → Type 0
ClearsNothing (Got byte) k = clears_queue byte ≡ false
ClearsNothing Inhibited k = Unit {0}
ClearsNothing Idle k = Unit {0}
ClearsNothing (Sent byte) k = is_reset_due k.reply ≡ false
ClearsNothing Cut k = Unit {0}

-- bytes are among others, in their order
abbrev pub IsSubsequence : List ℕ → List ℕ → Type 0
IsSubsequence [] ys = Unit {0}
IsSubsequence (x ∷ xs) [] = ⊥
IsSubsequence (x ∷ xs) (y ∷ ys) = ((x ≡ y) × IsSubsequence xs ys) ⊎ IsSubsequence (x ∷ xs) ys

-- over ticks in a row that clear nothing, with replies or without: what waited after the reply arrives in its order,
-- or waits still
abbrev pub LineInOrder : Type 0
LineInOrder =
    (layout : KeyLayout) (history : KeyHistory) (starts : ℕ → ℕ) (n count : ℕ)
    → ((j : ℕ) → n ≤ j → j < count + n
    → ClearsNothing (meeting_at layout history starts j) (at_tick layout history starts j).keys.keyboard)
    → IsSubsequence (line (at_tick layout history starts n).keys.keyboard)
    (all_arrived layout history starts n count ++ line (at_tick layout history starts (count + n)).keys.keyboard)

-- a tick gets no byte from the system and makes no reset, and the test has ended
abbrev pub IsPlain : Meeting → Keyboard → Type 0
IsPlain (Got byte) k = ⊥
IsPlain Inhibited k = Unit {0}
IsPlain Idle k = Unit {0}
IsPlain (Sent byte) k = is_reset_due k.reply ≡ false
IsPlain Cut k = Unit {0}

pub record IsPlainTick (layout : KeyLayout) (history : KeyHistory) (starts : ℕ → ℕ) (n : ℕ) : Type 0 where
  pub tested : (at_tick layout history starts n).keys.keyboard.test ≡ 0
  pub plain : IsPlain (meeting_at layout history starts n) (at_tick layout history starts n).keys.keyboard

-- over such ticks in a row: what arrived, and then what waits now, is what waited, and then what came
abbrev pub AllInOrder : Type 0
AllInOrder =
    (layout : KeyLayout) (history : KeyHistory) (starts : ℕ → ℕ) (n count : ℕ)
    → ((j : ℕ) → n ≤ j → j < count + n → IsPlainTick layout history starts j)
    → Extends (waiting (at_tick layout history starts n).keys.keyboard)
    (all_arrived layout history starts n count ++ waiting (at_tick layout history starts (count + n)).keys.keyboard)
