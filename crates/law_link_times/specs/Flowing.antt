-- In time: one byte a tick.
use Rattle.std.specs.Prelude.{◌≡◌, ◌≤◌, ◌<◌, ℕ, ◌+◌, ◌⊎◌, false, All, Some, None, slice_get}
use Rattle.board_terms.specs.Cadence.{KeepsCadenceTo}
use Rattle.board_terms.specs.declared.event.HostEvent.{HostEvent}
use Rattle.ctl_link.specs.declared.link.Link.TheVariants.{Free}
use Rattle.host_turn.specs.Run.{Side}
use Rattle.model_controller.specs.declared.UnderWay.{UnderWay}
use Rattle.model_controller.specs.declared.meeting.Meeting.TheVariants.{Sent}
use Rattle.model_keyboard.specs.Keyboard.{offer}
use Rattle.model_keyboard.specs.Once.{is_reset_due, waiting}
use Rattle.key_file.specs.Histories.{KeyHistory}
use Rattle.layout_reader.specs.Layouts.{KeyLayout}
use Rattle.law_quiet_log.specs.Once.{at_tick, meeting_at}
use Rattle.law_quiet_log.specs.Quiet.{IsQuietAct}
use Rattle.law_link_times.specs.Coming.{keyboard_at}

-- nothing holds the keyboard off in a tick: the byte that is offered is sent
abbrev pub Sends : KeyLayout → KeyHistory → (ℕ → ℕ) → ℕ → Type 0
Sends layout history starts n =
    (byte : ℕ) → offer (keyboard_at layout history starts n) ≡ Some byte
    → meeting_at layout history starts n ≡ Sent byte

-- if so it is from tick n on, the byte at place i of what waits at its start is the one that arrives in tick n + i.
-- The reply to a reset is the last byte before the test begins again, so after it nothing is promised
abbrev pub OneByteATick : Type 0
OneByteATick =
    (layout : KeyLayout) (history : KeyHistory) (starts : ℕ → ℕ) (n i byte : ℕ)
    → ((j : ℕ) → n ≤ j → j ≤ i + n → Sends layout history starts j)
    → (i ≡ 0) ⊎ (is_reset_due (keyboard_at layout history starts n).reply ≡ false)
    → slice_get (waiting (keyboard_at layout history starts n)) i ≡ Some byte
    → meeting_at layout history starts (i + n) ≡ Sent byte

-- the host takes words from INT 09h's buffer and reads the status, whenever it likes; it writes to no port, reads no
-- byte, masks nothing, and no noise turns a bit round. When keys are struck is free
abbrev pub IsHostQuiet : KeyHistory → Type 0
IsHostQuiet history = All (λ event. IsQuietAct event.act) history.host

-- the PC's side at rest: both buffers are empty and the link is free, no reply is awaited, no flip is pending, the
-- interrupt isn't masked, and the command byte is that of power-on
pub record IsAtRest (m : Side UnderWay) : Type 0 where
  pub input : m.port.core.input ≡ None
  pub output : m.port.core.output_full ≡ false
  pub command : m.port.core.command_byte ≡ 0x45
  pub link : m.port.link ≡ Free
  pub awaits : m.port.awaits ≡ false
  pub flip : m.port.flip ≡ None
  pub masked : m.masked ≡ false

-- from a tick on the host is quiet, whatever it did before: at the tick's start the PC's side is at rest and the
-- keyboard has no reply to send, and the events that aren't done yet are quiet
pub record IsQuietFrom (layout : KeyLayout) (history : KeyHistory) (starts : ℕ → ℕ) (first : ℕ) : Type 0 where
  pub rests : IsAtRest (at_tick layout history starts first).side
  pub replied : (keyboard_at layout history starts first).reply ≡ None
  pub acts : (i : ℕ) (event : HostEvent) → (at_tick layout history starts first).side.done ≤ i
      → slice_get history.host i ≡ Some event → IsQuietAct event.act

-- such a host holds nothing off: once the test has ended, each tick sends what is offered
abbrev pub QuietSends : Type 0
QuietSends =
    (layout : KeyLayout) (history : KeyHistory) (starts : ℕ → ℕ) (last n : ℕ) → IsHostQuiet history
    → KeepsCadenceTo starts last → n < last → (keyboard_at layout history starts n).test ≡ 0
    → Sends layout history starts n

-- so with it the byte at place i arrives in tick n + i
abbrev pub QuietByteATick : Type 0
QuietByteATick =
    (layout : KeyLayout) (history : KeyHistory) (starts : ℕ → ℕ) (last n i byte : ℕ) → IsHostQuiet history
    → KeepsCadenceTo starts last → i + n < last → (keyboard_at layout history starts n).test ≡ 0
    → slice_get (waiting (keyboard_at layout history starts n)) i ≡ Some byte
    → meeting_at layout history starts (i + n) ≡ Sent byte

-- and so it is from a tick on
abbrev pub QuietSendsFrom : Type 0
QuietSendsFrom =
    (layout : KeyLayout) (history : KeyHistory) (starts : ℕ → ℕ) (first last n : ℕ)
    → IsQuietFrom layout history starts first → KeepsCadenceTo starts last → first ≤ n → n < last
    → (keyboard_at layout history starts n).test ≡ 0 → Sends layout history starts n
