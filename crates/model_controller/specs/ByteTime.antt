-- The controller in byte time, tick by tick.
use Rattle.std.specs.Prelude.{ℕ, ◌+◌, Bool, true, false, List, Some, None}
use Rattle.std.proofs.Common.{zero, suc}
use Rattle.std.specs.declared.option.Option.{Option}
use Rattle.board_terms.specs.declared.event.HostEvent.{HostEvent}
use Rattle.host_turn.specs.Run.{Side, goes_on}
use Rattle.ctl_link.specs.declared.link.Link.{Link}
use Rattle.ctl_link.specs.declared.link.Link.TheVariants.{Free, Hold, Ask, Request, Busy}
use Rattle.ctl_link.specs.declared.port.LinkEnd.{LinkEnd}
use Rattle.ctl_link.specs.Link.{begun, received, handed_over}
use Rattle.model_controller.specs.declared.UnderWay.{UnderWay}
use Rattle.model_controller.specs.declared.meeting.Meeting.{Meeting}
use Rattle.model_controller.specs.declared.meeting.Meeting.TheVariants.{Got, Inhibited, Idle, Sent, Cut}

-- what comes over the link in a cycle: nothing; a byte begins, of the keyboard or for it; the keyboard's byte can't be
-- broken off any more; it arrives; the byte for the keyboard is whole
pub data Event : Type 0 where
  Quiet : Event
  Begins : Bool → Event
  Closes : Event
  Arrives : ℕ → Event
  IsWhole : Event

-- whether a waiting input may break off a byte under way
abbrev pub is_open : UnderWay → Bool
is_open u = u.breakable

-- a byte of the keyboard that begins, with the flip that it takes, if any; it may be broken off
abbrev pub of_keyboard : Option ℕ → UnderWay
of_keyboard flip = record { from_keyboard = true; flip = flip; breakable = true }

-- a byte for the keyboard
abbrev pub for_keyboard : UnderWay
for_keyboard = record { from_keyboard = false; flip = None; breakable = false }

-- a byte under way can't be broken off any more
abbrev pub closed : Link UnderWay → Link UnderWay
closed Free = Free
closed (Hold since) = Hold since
closed (Ask byte since) = Ask byte since
closed (Request byte) = Request byte
closed (Busy u) = Busy (record u { breakable = false })

-- a byte whose frame took a flip comes wrong
abbrev pub arriving : Option ℕ → ℕ → Option ℕ
arriving None byte = Some byte
arriving (Some bit) byte = None

-- the keyboard's byte arrives if it is still under way
abbrev pub arrived_in : ℕ → ℕ → Link UnderWay → LinkEnd UnderWay → LinkEnd UnderWay
arrived_in now byte Free p = p
arrived_in now byte (Hold since) p = p
arrived_in now byte (Ask asked since) p = p
arrived_in now byte (Request asked) p = p
arrived_in now byte (Busy u) p = received now (arriving u.flip byte) p

-- the controller, once that has come
abbrev pub happened_at : ℕ → Event → LinkEnd UnderWay → LinkEnd UnderWay
happened_at now Quiet p = p
happened_at now (Begins true) p = begun of_keyboard p
happened_at now (Begins false) p = record p { link = Busy for_keyboard }
happened_at now Closes p = record p { link = closed p.link }
happened_at now (Arrives byte) p = arrived_in now byte p.link p
happened_at now IsWhole p = handed_over p

-- a cycle: what comes over the link; the host; a waiting input breaks off the keyboard's byte; the controller settles
unfoldable pub byte_cycle : List HostEvent → ℕ → Event → Side UnderWay → Side UnderWay
byte_cycle events now event m = goes_on is_open events now (record m { port = happened_at now event m.port })

-- cycles in which nothing comes over the link
abbrev pub quietly : List HostEvent → ℕ → ℕ → Side UnderWay → Side UnderWay
quietly events zero now m = m
quietly events (suc n) now m = quietly events n (suc now) (byte_cycle events now Quiet m)

-- The meeting of a tick is known in two steps. What begins at offset 288: by the link after offset 255, the byte that
-- the keyboard offers, and the link after offset 287. Here `Sent` says that the keyboard's byte begins
abbrev pub meeting_of : Link UnderWay → Option ℕ → Link UnderWay → Meeting
meeting_of (Hold since) offer later = Inhibited
meeting_of (Ask byte since) offer later = Inhibited
meeting_of (Request byte) offer later = Got byte
meeting_of (Busy u) offer later = Idle
meeting_of Free None later = Idle
meeting_of Free (Some byte) Free = Sent byte
meeting_of Free (Some byte) (Hold since) = Cut
meeting_of Free (Some byte) (Ask asked since) = Cut
meeting_of Free (Some byte) (Request asked) = Cut
meeting_of Free (Some byte) (Busy u) = Cut

-- what begins, by whether the power-on test had ended at the tick's start too: as long as it runs nothing passes
abbrev pub meeting_by : Bool → Option ℕ → Link UnderWay → Link UnderWay → Meeting
meeting_by true offer earlier later = meeting_of earlier offer later
meeting_by false offer earlier later = Idle

abbrev pub meeting_in : Bool → Option ℕ → Side UnderWay → Side UnderWay → Meeting
meeting_in tested offer earlier later = meeting_by tested offer earlier.port.link later.port.link

-- a byte of the keyboard that has begun is sent if it is still under way after offset 607; else it was broken off
abbrev pub sent_or_cut : ℕ → Link UnderWay → Meeting
sent_or_cut byte Free = Cut
sent_or_cut byte (Hold since) = Cut
sent_or_cut byte (Ask asked since) = Cut
sent_or_cut byte (Request asked) = Cut
sent_or_cut byte (Busy u) = Sent byte

-- a byte of the keyboard in the 320 cycles from offset 288 on: from offset 576 on it can't be broken off
abbrev pub sends : List HostEvent → ℕ → Side UnderWay → Side UnderWay
sends events now m =
    quietly events 31 (289 + now)
    (byte_cycle events (288 + now) Closes (quietly events 287 (suc now) (byte_cycle events now (Begins true) m)))

-- the meeting, by what begins, and by the state at offset 288
abbrev pub ended_as : List HostEvent → Meeting → ℕ → Side UnderWay → Meeting
ended_as events (Got byte) now m = Got byte
ended_as events Inhibited now m = Inhibited
ended_as events Idle now m = Idle
ended_as events (Sent byte) now m = sent_or_cut byte (sends events now m).port.link
ended_as events Cut now m = Cut

-- the 320 cycles of a byte and the one in which it ends, by what begins, from offset 288 on
abbrev pub carried : List HostEvent → Meeting → ℕ → Side UnderWay → Side UnderWay
carried events (Got byte) now m =
    byte_cycle events (320 + now) IsWhole (quietly events 319 (suc now) (byte_cycle events now (Begins false) m))
carried events Inhibited now m = quietly events 321 now m
carried events Idle now m = quietly events 321 now m
carried events (Sent byte) now m = byte_cycle events (320 + now) (Arrives byte) (sends events now m)
carried events Cut now m = quietly events 321 now m
