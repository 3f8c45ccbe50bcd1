-- The expected log: the keyboard by ticks, the controller in byte time, and what they give.
use Rattle.std.specs.Prelude.{ℕ, ◌+◌, ◌-◌, Bool, List, length, map}
use Rattle.std.proofs.Common.{zero, suc}
use Rattle.board_terms.specs.declared.event.Edge.{Edge}
use Rattle.board_terms.specs.declared.event.HostEvent.{HostEvent}
use Rattle.board_terms.specs.Cadence.{tick_of, listed}
use Rattle.layout_reader.specs.Layouts.{KeyLayout}
use Rattle.key_file.specs.Histories.{KeyHistory}
use Rattle.host_turn.specs.declared.stamped.Stamped.{Stamped}
use Rattle.host_turn.specs.Run.{Side, side_at_start, says_lights}
use Rattle.model_controller.specs.declared.UnderWay.{UnderWay}
use Rattle.model_controller.specs.declared.meeting.Meeting.{Meeting}
use Rattle.model_controller.specs.ByteTime.{quietly, carried, ended_as, meeting_in}
use Rattle.model_link.specs.declared.line.LogLine.{LogLine}
use Rattle.model_link.specs.TickEdges.{tick_edges}
use Rattle.model_link.specs.Machine.{KeyboardMachine, keyboard}

-- the keyboard's state, the controller's side, and the lights shown
pub record Whole (S : Type 0) : Type 0 where
  pub keys : S
  pub side : Side UnderWay
  pub shown : ℕ

-- a tick's cycles up to its first look at the link, offset 255: the lights are put at offset 232
abbrev pub to_look : List HostEvent → ℕ → ℕ → ℕ → Side UnderWay → Side UnderWay
to_look events shown lights start m =
    quietly events 24 (232 + start) (says_lights (232 + start) shown lights (quietly events 232 start m))

-- from there to the cycle before a byte may begin, offset 287
abbrev pub to_meeting : List HostEvent → ℕ → Side UnderWay → Side UnderWay
to_meeting events start m = quietly events 32 (256 + start) m

-- from offset 288 on, once it is known what begins there
abbrev pub from_meeting : List HostEvent → ℕ → ℕ → Meeting → Side UnderWay → Side UnderWay
from_meeting events start rest begins m = quietly events rest (609 + start) (carried events begins (288 + start) m)

-- what begins in a tick that starts in this cycle
abbrev pub begins_from : {S : Type 0} → KeyboardMachine S → List HostEvent → ℕ → Whole S → Meeting
begins_from kb events start w =
    let earlier : Side UnderWay = to_look events w.shown (kb.lights w.keys) start w.side in
    meeting_in (kb.tested w.keys) (kb.offer w.keys) earlier (to_meeting events start earlier)

-- its meeting: a byte of the keyboard that begins is sent, or is broken off
abbrev pub meeting_from : {S : Type 0} → KeyboardMachine S → List HostEvent → ℕ → Whole S → Meeting
meeting_from kb events start w =
    ended_as events (begins_from kb events start w) (288 + start)
    (to_meeting events start (to_look events w.shown (kb.lights w.keys) start w.side))

-- a tick of 609 and `rest` cycles
abbrev pub whole_tick : {S : Type 0} → KeyboardMachine S → List HostEvent → List (ℕ × Bool) → ℕ → ℕ → Whole S → Whole S
whole_tick kb events edges start rest w = record {
  keys = kb.ticked (meeting_from kb events start w) edges w.keys;
  side = from_meeting events start rest (begins_from kb events start w)
      (to_meeting events start (to_look events w.shown (kb.lights w.keys) start w.side));
  shown = kb.lights w.keys;
}

-- tick n, from its start to the next
abbrev pub next_tick : {S : Type 0} → KeyboardMachine S → List Edge → List HostEvent → (ℕ → ℕ) → ℕ → Whole S → Whole S
next_tick kb edges host starts n w =
    whole_tick kb host (tick_edges starts edges n) (4096 + starts n) (starts (suc n) - starts n - 609) w

-- at the start of tick n. Cycle 4,096 is stamp 0, and before it nothing happens
abbrev pub whole_at : {S : Type 0} → KeyboardMachine S → List Edge → List HostEvent → (ℕ → ℕ) → ℕ → Whole S
whole_at kb edges host starts zero =
    record { keys = kb.start; side = quietly host (starts 0) 4096 (side_at_start UnderWay); shown = 0 }
whole_at kb edges host starts (suc n) = next_tick kb edges host starts n (whole_at kb edges host starts n)

-- each item with its tick
abbrev pub lines : (ℕ → ℕ) → ℕ → List Stamped → List LogLine
lines starts n log = map (λ s. record { tick = tick_of starts n s.cycle; item = s.item }) log

-- the expected log, up to start n
abbrev pub expected : {S : Type 0} → KeyboardMachine S → List Edge → List HostEvent → (ℕ → ℕ) → ℕ → List LogLine
expected kb edges host starts n = lines starts n (whole_at kb edges host starts n).side.log

-- the expected log of a layout, a history and the starts of its ticks, the last of which is where the run ends
abbrev pub expected_log : KeyLayout → KeyHistory → List ℕ → List LogLine
expected_log layout history starts =
    expected (keyboard layout) history.edges history.host (listed starts) (length starts - 1)
