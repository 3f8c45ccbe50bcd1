-- Laws of a tick, by its meeting, from the look at offset 256 on. The tick has 609 + rest cycles and starts at `start`.
use Rattle.std.specs.Prelude.{◌≡◌, ℕ, suc, ◌+◌, ◌*◌, ◌≤◌, ◌<◌, Bool, true, false, List, Some}
use Rattle.std.specs.declared.option.Option.{Option}
use Rattle.board_terms.specs.declared.event.HostEvent.{HostEvent}
use Rattle.board_terms.specs.declared.lines.Lines.{Lines}
use Rattle.board_terms.specs.Frame.{byte_of}
use Rattle.ctl_link.specs.Link.{is_busy}
use Rattle.ctl_link.specs.declared.link.Link.TheVariants.{Free, Request}
use Rattle.ctl_wire.specs.Wire.{drive}
use Rattle.host_turn.specs.Run.{Side}
use Rattle.ctl_wire.specs.Wires.{Pc}
use Rattle.model_controller.specs.declared.UnderWay.{UnderWay}
use Rattle.model_controller.specs.ByteTime.{quietly, carried, meeting_in, ended_as}
use Rattle.model_controller.specs.declared.meeting.Meeting.{Meeting}
use Rattle.model_controller.specs.declared.meeting.Meeting.TheVariants.{Got, Inhibited, Idle, Sent, Cut}
use Rattle.law_wires_agree.specs.Cells.{IsUp, IsDown, IsFrame, bits_to}
use Rattle.law_wires_agree.specs.Cycles.{board_cycles}
use Rattle.law_wires_agree.specs.Flips.{IsFlip}
use Rattle.law_wires_agree.specs.Without.{seen_in_bytes}

-- a tick in byte time, from the look on
abbrev pub from_look : List HostEvent → Bool → Option ℕ → ℕ → ℕ → Side UnderWay → Side UnderWay
from_look events tested offer start rest m =
    let later : Side UnderWay = quietly events 32 (256 + start) m in
    quietly events rest (609 + start) (carried events (meeting_in tested offer m later) (288 + start) later)

-- and its meeting
abbrev pub meeting_from : List HostEvent → Bool → Option ℕ → ℕ → Side UnderWay → Meeting
meeting_from events tested offer start m =
    let later : Side UnderWay = quietly events 32 (256 + start) m in
    ended_as events (meeting_in tested offer m later) (288 + start) later

-- the state at offset 288 of a tick that is in this state at offset 256
abbrev pub at_meeting : List HostEvent → (ℕ → Lines) → ℕ → Pc → Pc
at_meeting events latch start b = board_cycles events latch 32 (256 + start) b

-- whether the controller leaves the clock alone so many cycles after the first edge, by the state at offset 256; and at
-- the look in cell k of a frame, 18 cycles into the cell
abbrev pub leaves_cycle : List HostEvent → (ℕ → Lines) → ℕ → Pc → ℕ → Bool
leaves_cycle events latch start b n =
    (drive (board_cycles events latch n (288 + start) (at_meeting events latch start b)).side.port.link).clk

abbrev pub leaves_clock : List HostEvent → (ℕ → Lines) → ℕ → Pc → ℕ → Bool
leaves_clock events latch start b k = leaves_cycle events latch start b (32 * k + 18)

-- from the look to the tick's end, k cycles, both sides do the same; then no byte is under way; and this was the
-- meeting
pub record Ticked
    (events : List HostEvent) (latch : ℕ → Lines) (start rest : ℕ) (b : Pc) (tested : Bool) (offer : Option ℕ)
    (meeting : Meeting) (k : ℕ)
    : Type 0 where
  pub agrees : seen_in_bytes (board_cycles events latch k (256 + start) b).side
      ≡ from_look events tested offer start rest (seen_in_bytes b.side)
  pub idle_again : is_busy (board_cycles events latch k (256 + start) b).side.port.link ≡ false
  pub meets : meeting_from events tested offer start (seen_in_bytes b.side) ≡ meeting

-- after a frame the keyboard keeps the clock low for 15 cycles more, and then leaves it alone
pub record EndsFrame (latch : ℕ → Lines) (start rest : ℕ) : Type 0 where
  pub low : IsDown latch (609 + start) (609 + start + 15)
  pub high : IsUp latch (624 + start) (609 + rest + start)

-- the link is free at both looks of the tick, and the keyboard sends a right frame, through which the controller leaves
-- the clock alone: its byte arrives, or comes wrong by noise
abbrev pub SentTick : Type 0
SentTick =
    (events : List HostEvent) (latch : ℕ → Lines) (start rest more byte k : ℕ) (bits : ℕ → Bool) (b : Pc)
    → IsUp latch (256 + start) (288 + start) → b.side.port.link ≡ Free
    → (at_meeting events latch start b).side.port.link ≡ Free → IsFlip (at_meeting events latch start b).side.port.flip
    → IsFrame latch (288 + start) bits → byte_of (bits_to bits 11) ≡ Some byte
    → ((i : ℕ) → i < 10 → leaves_clock events latch start b i ≡ true) → EndsFrame latch start rest
    → rest ≡ 15 + more → k ≡ 353 + rest → Ticked events latch start rest b true (Some byte) (Sent byte) k

-- the link is free at both looks of the tick and the keyboard begins a frame, but at a look in cell j, from its 18th cycle
-- on, the controller pulls the clock, and at that of no cell before it: up to there the keyboard drives what it would in a
-- right frame, and then it leaves the clock alone. The byte was broken off
abbrev pub BrokenTick : Type 0
BrokenTick =
    (events : List HostEvent) (latch line : ℕ → Lines) (start rest byte j n k : ℕ) (bits : ℕ → Bool) (b : Pc)
    → IsUp latch (256 + start) (288 + start) → b.side.port.link ≡ Free
    → (at_meeting events latch start b).side.port.link ≡ Free
    → IsFrame line (288 + start) bits → j < 10 → 17 ≤ n → n ≤ 31
    → ((o : ℕ) → 288 + start ≤ o → o < 32 * j + (289 + n) + start → latch o ≡ line o)
    → ((i : ℕ) → i < j → leaves_clock events latch start b i ≡ true)
    → leaves_cycle events latch start b (32 * j + suc n) ≡ false
    → IsUp latch (32 * j + (289 + n) + start) (609 + rest + start)
    → k ≡ 353 + rest → Ticked events latch start rest b true (Some byte) Cut k

-- the link requests at the look, and the keyboard clocks a frame: the byte is handed over
abbrev pub GotTick : Type 0
GotTick =
    (events : List HostEvent) (latch : ℕ → Lines) (start rest more byte k : ℕ) (offer : Option ℕ) (bits : ℕ → Bool)
    (b : Pc)
    → IsUp latch (256 + start) (288 + start) → b.side.port.link ≡ Request byte
    → IsFrame latch (288 + start) bits → EndsFrame latch start rest
    → rest ≡ 15 + more → k ≡ 353 + rest → Ticked events latch start rest b true offer (Got byte) k

-- the link is free at the look, and no longer at the meeting: the keyboard may do anything up to offset 319, and then
-- leaves the clock alone
abbrev pub CutTick : Type 0
CutTick =
    (events : List HostEvent) (latch : ℕ → Lines) (start rest byte k : ℕ) (b : Pc)
    → IsUp latch (256 + start) (288 + start) → b.side.port.link ≡ Free
    → ((at_meeting events latch start b).side.port.link ≡ Free → ⊥) → IsUp latch (320 + start) (609 + rest + start)
    → k ≡ 353 + rest → Ticked events latch start rest b true (Some byte) Cut k

-- a meeting at which no byte passes
abbrev pub IsNone : Meeting → Type 0
IsNone (Got byte) = ⊥
IsNone Inhibited = Unit {0}
IsNone Idle = Unit {0}
IsNone (Sent byte) = ⊥
IsNone Cut = Unit {0}

-- the keyboard leaves the clock alone, and by the meeting nothing passes
abbrev pub StillTick : Type 0
StillTick =
    (events : List HostEvent) (latch : ℕ → Lines) (start rest k : ℕ) (tested : Bool) (offer : Option ℕ)
    (meeting : Meeting) (b : Pc) → IsUp latch (256 + start) (288 + start) → is_busy b.side.port.link ≡ false
    → meeting_in tested offer (seen_in_bytes b.side) (seen_in_bytes (at_meeting events latch start b).side) ≡ meeting
    → IsNone meeting → IsUp latch (288 + start) (609 + rest + start)
    → k ≡ 353 + rest → Ticked events latch start rest b tested offer meeting k
