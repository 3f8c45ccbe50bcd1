-- Laws of the model.
use Rattle.std.specs.Prelude.{◌≡◌, ◌≤◌, ◌<◌, ℕ, ◌+◌, ◌==◌, Bool, true, false, List, [], ◌∷◌, ◌++◌, length, if◌then◌else◌}
use Rattle.std.proofs.Common.{zero, suc}
use Rattle.std.specs.declared.option.Option.{Option}
use Rattle.board_terms.specs.declared.event.Edge.{Edge}
use Rattle.board_terms.specs.declared.event.HostEvent.{HostEvent}
use Rattle.board_terms.specs.Cadence.{KeepsCadenceTo}
use Rattle.host_turn.specs.Run.{Side, says_lights}
use Rattle.model_controller.specs.declared.UnderWay.{UnderWay}
use Rattle.model_controller.specs.declared.meeting.Meeting.{Meeting}
use Rattle.model_controller.specs.declared.meeting.Meeting.TheVariants.{Got, Inhibited, Idle, Sent, Cut}
use Rattle.model_controller.specs.ByteTime.{Event, Quiet, Begins, Closes, Arrives, IsWhole}
use Rattle.model_controller.specs.ByteTime.{byte_cycle, ended_as, meeting_in, sent_or_cut}
use Rattle.ctl_link.specs.declared.link.Link.{Link}
use Rattle.layout_reader.specs.Layouts.{KeyLayout, is_fn_place}
use Rattle.model_keyboard.specs.Layers.{no_layers, all_layers_after}
use Rattle.key_file.specs.Histories.{KeyHistory}
use Rattle.key_file.specs.Accepted.{IsLawful}
use Rattle.model_link.specs.Debounce.{taken}
use Rattle.model_link.specs.TickEdges.{is_seen, tick_edges, shown, downs_in, downs_before, read_at}
use Rattle.model_link.specs.Machine.{keyboard}
use Rattle.model_link.specs.Expected.{to_look, to_meeting, from_meeting, whole_at}

-- by rising place, no place twice
abbrev pub RisesFrom : ℕ → List (ℕ × Bool) → Type 0
RisesFrom from [] = Unit {0}
RisesFrom from (c ∷ cs) = (from ≤ c.0) × RisesFrom (suc c.0) cs

-- the columns of tick n, read against the keys held before it, show its edges: at most four, of different places. So
-- it is of each lawful history under the cadence
pub record Shows (starts : ℕ → ℕ) (edges : List Edge) (n : ℕ) : Type 0 where
  pub same : tick_edges starts edges n ≡ shown (downs_before starts edges n) (downs_in starts edges n)
  pub few : length (tick_edges starts edges n) ≤ 4
  pub rising : RisesFrom 0 (tick_edges starts edges n)

abbrev pub EdgesShown : Type 0
EdgesShown =
    (starts : ℕ → ℕ) (history : KeyHistory) (n : ℕ) → IsLawful history → KeepsCadenceTo starts n
    → Shows starts history.edges n

-- an edge whose column tick n reads in time has one tick that sees it, and no other
pub record SeenOnce (starts : ℕ → ℕ) (n : ℕ) (e : Edge) : Type 0 where
  pub seen : ℕ
  pub by_then : seen ≤ n
  pub sees : is_seen starts seen e ≡ true
  pub other : (m : ℕ) → is_seen starts m e ≡ true → m ≡ seen

abbrev pub EachSeenOnce : Type 0
EachSeenOnce = (starts : ℕ → ℕ) (n : ℕ) (e : Edge) → e.stamp ≤ read_at starts e.place n → SeenOnce starts n e

-- the edges that the keyboard takes in tick n, and those that it took in the ticks before, in their order
module _ (layout : KeyLayout) (edges : List Edge) (host : List HostEvent) (starts : ℕ → ℕ) where
  abbrev pub taken_in : ℕ → List (ℕ × Bool)
  taken_in n =
      taken layout.debounce (tick_edges starts edges n) (whole_at (keyboard layout) edges host starts n).keys.switches

  abbrev pub taken_before : ℕ → List (ℕ × Bool)
  taken_before zero = []
  taken_before (suc n) = taken_before n ++ taken_in n

-- the layers at the start of tick n are what all edges that it took in the earlier ticks leave, one after the other
abbrev pub LayersFollow : Type 0
LayersFollow =
    (layout : KeyLayout) (edges : List Edge) (host : List HostEvent) (starts : ℕ → ℕ) (n : ℕ)
    → (whole_at (keyboard layout) edges host starts n).keys.layers
    ≡ all_layers_after (is_fn_place layout) (taken_before layout edges host starts n) no_layers

-- what comes over the link at an offset of a tick, by what begins in it
abbrev pub event_at : Meeting → ℕ → Event
event_at (Got byte) o = if o == 288 then Begins false else if o == 608 then IsWhole else Quiet
event_at Inhibited o = Quiet
event_at Idle o = Quiet
event_at (Sent byte) o =
    if o == 288 then Begins true else if o == 576 then Closes else if o == 608 then Arrives byte else Quiet
event_at Cut o = Quiet

-- the meeting, by what begins, and by the link after offset 607
abbrev pub ended_by : Meeting → Link UnderWay → Meeting
ended_by (Got byte) last = Got byte
ended_by Inhibited last = Inhibited
ended_by Idle last = Idle
ended_by (Sent byte) last = sent_or_cut byte last
ended_by Cut last = Cut

-- the lights are put before the cycle at offset 232
abbrev pub lit_at : ℕ → ℕ → ℕ → ℕ → Side UnderWay → Side UnderWay
lit_at start shown lights o m = if o == 232 then says_lights (232 + start) shown lights m else m

-- in each cycle of a tick: the lights, what comes over the link, the host, the controller. `at` is the state before it
pub record EachCycle (events : List HostEvent) (tested : Bool) (offer : Option ℕ) (shown lights start length : ℕ)
    (at : ℕ → Side UnderWay) : Type 0 where
  pub cycle : (o : ℕ) → o < length → at (suc o) ≡
      byte_cycle events (o + start) (event_at (meeting_in tested offer (at 256) (at 288)) o)
      (lit_at start shown lights o (at o))

-- so many cycles come to what the spans of a tick say, by what begins in it; and so does the meeting
pub record ComesToSpans (events : List HostEvent) (begins : Meeting) (shown lights start rest end : ℕ)
    (at : ℕ → Side UnderWay) : Type 0 where
  pub side : at end ≡ from_meeting events start rest begins
      (to_meeting events start (to_look events shown lights start (at 0)))
  pub meeting : ended_by begins (at 608).port.link
      ≡ ended_as events begins (288 + start) (to_meeting events start (to_look events shown lights start (at 0)))

-- so does a tick in which each cycle does what is said of it
abbrev pub CycleByCycle : Type 0
CycleByCycle =
    (events : List HostEvent) (start : ℕ) (at : ℕ → Side UnderWay) (rest : ℕ) (tested : Bool) (offer : Option ℕ)
    (shown lights end : ℕ) → end ≡ 609 + rest
    → EachCycle events tested offer shown lights start end at
    → ComesToSpans events (meeting_in tested offer (at 256) (at 288)) shown lights start rest end at
