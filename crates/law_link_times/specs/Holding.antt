-- Nothing waits for ever: what alone keeps a byte that is offered from going in a tick.
use Rattle.std.specs.Prelude.{◌≡◌, ◌≤◌, ◌<◌, ℕ, ◌+◌, ◌⊎◌, Bool, true, is_some, slice_get, List, Some}
use Rattle.board_terms.specs.declared.event.HostEvent.{HostEvent}
use Rattle.model_controller.specs.declared.UnderWay.{UnderWay}
use Rattle.model_controller.specs.declared.meeting.Meeting.{Meeting}
use Rattle.model_controller.specs.declared.meeting.Meeting.TheVariants.{Got, Inhibited, Idle, Sent, Cut}
use Rattle.model_controller.specs.ByteTime.{of_keyboard, quietly}
use Rattle.ctl_core.specs.Controller.{is_disabled}
use Rattle.ctl_link.specs.Link.{begun}
use Rattle.ctl_link.specs.declared.link.Link.{Link}
use Rattle.ctl_link.specs.declared.link.Link.TheVariants.{Free, Hold, Ask, Request, Busy}
use Rattle.ctl_link.specs.declared.port.LinkEnd.{LinkEnd}
use Rattle.host_turn.specs.Cycle.{host_of}
use Rattle.host_turn.specs.Host.{turn}
use Rattle.host_turn.specs.Run.{Side, desk_of}
use Rattle.model_keyboard.specs.Keyboard.{offer}
use Rattle.key_file.specs.Histories.{KeyHistory}
use Rattle.layout_reader.specs.Layouts.{KeyLayout}
use Rattle.model_link.specs.Expected.{Whole, to_look, to_meeting}
use Rattle.model_link.specs.Machine.{LayeredKeyboard}
use Rattle.law_quiet_log.specs.Once.{at_tick, meeting_at}
use Rattle.law_link_times.specs.Coming.{keyboard_at}

-- why the controller holds the clock after a cycle: the output buffer is full, or the host has disabled the keyboard,
-- or a pull of the clock is younger than its 64 cycles. For a byte that is to go to the keyboard, a command of the host's
-- or a resend of its own, it asks by such a pull alone; then it waits for the keyboard to fetch it
abbrev pub HoldsOff : ℕ → LinkEnd UnderWay → Link UnderWay → Type 0
HoldsOff now p Free = ⊥
HoldsOff now p (Hold since) =
    (p.core.output_full ≡ true) ⊎ ((is_disabled p.core ≡ true) ⊎ (now < since + 64))
HoldsOff now p (Ask byte since) = now < since + 64
HoldsOff now p (Request byte) = Unit {0}
HoldsOff now p (Busy u) = ⊥

-- the host's turn of a cycle leaves a byte in the controller's input buffer
abbrev pub input_waits : List HostEvent → ℕ → Side UnderWay → Bool
input_waits events now m =
    is_some (turn now m.port.filled (slice_get events m.done) (host_of (desk_of m))).host.core.input

-- a byte of the keyboard that begins in this cycle is broken off in one of its first 288: the host has written
-- something, and it waits
pub record IsBrokenOff (events : List HostEvent) (now : ℕ) (m : Side UnderWay) : Type 0 where
  pub offset : ℕ
  pub early : offset < 288
  pub input : input_waits events (offset + now)
      (quietly events offset now (record m { port = begun of_keyboard m.port })) ≡ true

-- the PC's side of a tick after its look at the link, offset 255, and in the cycle before a byte may begin, offset 287
module _ (layout : KeyLayout) (history : KeyHistory) (starts : ℕ → ℕ) (n : ℕ) where
  abbrev pub start_at : ℕ
  start_at = 4096 + starts n

  abbrev pub look_at : Side UnderWay
  look_at =
      let w : Whole LayeredKeyboard = at_tick layout history starts n in
      to_look history.host w.shown w.keys.keyboard.lights start_at w.side

  abbrev pub begin_at : Side UnderWay
  begin_at = to_meeting history.host start_at look_at

-- what a tick in which a byte is offered may be, by its meeting
abbrev pub MayMeet : KeyLayout → KeyHistory → (ℕ → ℕ) → ℕ → ℕ → Meeting → Type 0
-- the byte goes
MayMeet layout history starts n byte (Sent sent) = sent ≡ byte
-- Inhibited: the controller holds the clock at the look
MayMeet layout history starts n byte Inhibited =
    HoldsOff (255 + start_at layout history starts n) (look_at layout history starts n).port
    (look_at layout history starts n).port.link
-- Got: the keyboard fetches a byte that the controller has for it
MayMeet layout history starts n byte (Got command) = (look_at layout history starts n).port.link ≡ Request command
-- Cut: the controller began to hold the clock after the look, before the byte could begin; or a waiting input broke
-- the frame off
MayMeet layout history starts n byte Cut =
    HoldsOff (287 + start_at layout history starts n) (begin_at layout history starts n).port
    (begin_at layout history starts n).port.link
    ⊎ IsBrokenOff history.host (288 + start_at layout history starts n) (begin_at layout history starts n)
-- Idle: the keyboard's own test still runs
MayMeet layout history starts n byte Idle = 0 < (keyboard_at layout history starts n).test

-- and nothing else
abbrev pub NothingElseHolds : Type 0
NothingElseHolds =
    (layout : KeyLayout) (history : KeyHistory) (starts : ℕ → ℕ) (n byte : ℕ)
    → offer (keyboard_at layout history starts n) ≡ Some byte
    → MayMeet layout history starts n byte (meeting_at layout history starts n)

-- a tick holds a byte off, and takes nothing
abbrev pub IsHeldOff : Meeting → Type 0
IsHeldOff (Got byte) = ⊥
IsHeldOff Inhibited = Unit {0}
IsHeldOff Idle = ⊥
IsHeldOff (Sent byte) = ⊥
IsHeldOff Cut = Unit {0}

abbrev pub IsGot : Meeting → Type 0
IsGot (Got byte) = Unit {0}
IsGot Inhibited = ⊥
IsGot Idle = ⊥
IsGot (Sent byte) = ⊥
IsGot Cut = ⊥

-- once the test has ended, a byte that is offered in tick n is offered still after any ticks that hold it off, and it
-- goes in the first that doesn't, but if a byte from the system comes first
abbrev pub GoesAtLast : Type 0
GoesAtLast =
    (layout : KeyLayout) (history : KeyHistory) (starts : ℕ → ℕ) (n count byte : ℕ)
    → (keyboard_at layout history starts n).test ≡ 0
    → offer (keyboard_at layout history starts n) ≡ Some byte
    → ((j : ℕ) → n ≤ j → j < count + n → IsHeldOff (meeting_at layout history starts j))
    → (offer (keyboard_at layout history starts (count + n)) ≡ Some byte)
    × ((meeting_at layout history starts (count + n) ≡ Sent byte)
    ⊎ (IsHeldOff (meeting_at layout history starts (count + n))
    ⊎ IsGot (meeting_at layout history starts (count + n))))
