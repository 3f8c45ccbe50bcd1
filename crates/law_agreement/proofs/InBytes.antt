-- What the host writes stays a byte on its way to the keyboard: in the input buffer, and on the link.
use Rattle.std.proofs.Common.{◌≡◌, ◌<◌, ℕ, suc, zero, ◌+◌, ◌-◌, List, Bool, true, false, not, ◌&&◌}
use Rattle.std.proofs.Common.{subst}
use Rattle.std.specs.Prelude.{is_some, slice_get}
use Rattle.board_terms.specs.declared.event.HostEvent.{HostEvent}
use Rattle.ctl_link.specs.declared.link.Link.TheVariants.{Request}
use Rattle.ctl_link.specs.declared.port.LinkEnd.{LinkEnd}
use Rattle.ctl_link.specs.Link.{may_break}
use Rattle.ctl_link.specs.Link.{broken_off}
use Rattle.host_turn.specs.Host.{Host, event_turn, interrupts}
use Rattle.host_turn.specs.Cycle.{host_of, port_by}
use Rattle.host_turn.specs.Run.{Side, side_at_start, desk_of, goes_on, says_lights}
use Rattle.host_turn.proofs.Turns.{turn_of}
use Rattle.model_controller.specs.declared.UnderWay.{UnderWay}
use Rattle.model_controller.specs.declared.meeting.Meeting.{Meeting}
use Rattle.model_controller.specs.declared.meeting.Meeting.TheVariants.{Got, Inhibited, Idle, Sent, Cut}
use Rattle.model_controller.specs.ByteTime.{Event, Quiet, Begins, Closes, Arrives, IsWhole, happened_at}
use Rattle.model_controller.specs.ByteTime.{is_open, byte_cycle, quietly, carried}
use Rattle.key_file.specs.Accepted.{AreWritten}
use Rattle.ctl_wire.specs.declared.wire.Wire.{Wire}
use Rattle.law_wires_agree.specs.Without.{link_by, without_bits, seen_in_bytes}
use Rattle.model_link.specs.Machine.{KeyboardMachine}
use Rattle.model_link.specs.Expected.{Whole, to_look, to_meeting, from_meeting, begins_from, whole_tick}
use Rattle.law_agreement.proofs.Model.{at_first}
use Rattle.law_agreement.specs.Bytes.{AsksByte, IsInBytes}
use Rattle.law_agreement.proofs.PortInBytes.{writes_next, event_in, read_in, settled_in, happened_in}
use Rattle.law_agreement.proofs.PortInBytes.{broken_in}

-- at the start there is no byte
pub starts_in_bytes : IsInBytes (side_at_start UnderWay)
starts_in_bytes = (tt, tt)

-- the byte that the controller asks the keyboard to take at its wires is below 256
pub request_in_bytes : (s : Side Wire) (byte : ℕ) → IsInBytes (seen_in_bytes s) → s.port.link ≡ Request byte
    → byte < 256
request_in_bytes s byte b e = subst (λ l. AsksByte (link_by without_bits l)) e b.1

module _ (events : List HostEvent) (written : AreWritten events) where
  -- a cycle, once it is known what came over the link
  goes_on_in : (now : ℕ) (m : Side UnderWay) → IsInBytes m → IsInBytes (goes_on is_open events now m)
  unfolding goes_on
  goes_on_in now m b =
      let h : Host = host_of (desk_of m) in
      let first : Host = (event_turn now (slice_get events m.done) h).host in
      let event = event_in now (slice_get events m.done) h (writes_next events m.done written) b.0 in
      let read = read_in (interrupts now m.port.filled first) first event in
      let p : LinkEnd UnderWay = port_by (turn_of events now m) m.port in
      settled_in now (broken_off is_open now p)
      (broken_in (may_break is_open p.link && not p.awaits && is_some p.core.input) now p (read, b.1))

  -- a cycle in byte time
  pub cycle_in_bytes : (now : ℕ) (event : Event) (m : Side UnderWay) → IsInBytes m
      → IsInBytes (byte_cycle events now event m)
  unfolding byte_cycle
  cycle_in_bytes now event m b =
      goes_on_in now (record m { port = happened_at now event m.port }) (happened_in now event m.port b)

  -- cycles in which nothing comes over the link
  pub quiet_in_bytes : (n now : ℕ) (m : Side UnderWay) → IsInBytes m → IsInBytes (quietly events n now m)
  quiet_in_bytes zero now m b = b
  quiet_in_bytes (suc n) now m b =
      quiet_in_bytes n (suc now) (byte_cycle events now Quiet m) (cycle_in_bytes now Quiet m b)

  -- a byte, from the cycle in which it begins to the one in which it ends
  frame_in : (n now : ℕ) (begins ends : Event) (m : Side UnderWay) → IsInBytes m
      → IsInBytes (byte_cycle events (suc n + now) ends (quietly events n (suc now) (byte_cycle events now begins m)))
  frame_in n now begins ends m b =
      let begun = cycle_in_bytes now begins m b in
      let quiet = quiet_in_bytes n (suc now) (byte_cycle events now begins m) begun in
      cycle_in_bytes (suc n + now) ends (quietly events n (suc now) (byte_cycle events now begins m)) quiet

  -- the cycles of a byte, whatever the meeting
  pub carried_in_bytes : (meeting : Meeting) (now : ℕ) (m : Side UnderWay) → IsInBytes m
      → IsInBytes (carried events meeting now m)
  carried_in_bytes (Got byte) now m b = frame_in 319 now (Begins false) IsWhole m b
  carried_in_bytes Inhibited now m b = quiet_in_bytes 321 now m b
  carried_in_bytes Idle now m b = quiet_in_bytes 321 now m b
  carried_in_bytes (Sent byte) now m b =
      let begun : Side UnderWay = byte_cycle events now (Begins true) m in
      let open_to : Side UnderWay = quietly events 287 (suc now) begun in
      let shut : Side UnderWay = byte_cycle events (288 + now) Closes open_to in
      let open_in = quiet_in_bytes 287 (suc now) begun (cycle_in_bytes now (Begins true) m b) in
      let shut_in = cycle_in_bytes (288 + now) Closes open_to open_in in
      cycle_in_bytes (320 + now) (Arrives byte) (quietly events 31 (289 + now) shut)
      (quiet_in_bytes 31 (289 + now) shut shut_in)
  carried_in_bytes Cut now m b = quiet_in_bytes 321 now m b

  -- a tick's cycles up to its first look at the link
  pub look_in_bytes : (shown lights start : ℕ) (m : Side UnderWay) → IsInBytes m
      → IsInBytes (to_look events shown lights start m)
  look_in_bytes shown lights start m b =
      let lit : Side UnderWay = says_lights (232 + start) shown lights (quietly events 232 start m) in
      quiet_in_bytes 24 (232 + start) lit (quiet_in_bytes 232 start m b)

  -- from there to the cycle before a byte may begin
  pub meeting_in_bytes : (start : ℕ) (m : Side UnderWay) → IsInBytes m → IsInBytes (to_meeting events start m)
  meeting_in_bytes start m b = quiet_in_bytes 32 (256 + start) m b

  -- and from there to the next tick's start
  pub rest_in_bytes : (start rest : ℕ) (meeting : Meeting) (m : Side UnderWay) → IsInBytes m
      → IsInBytes (from_meeting events start rest meeting m)
  rest_in_bytes start rest meeting m b =
      let met : Side UnderWay = carried events meeting (288 + start) m in
      quiet_in_bytes rest (609 + start) met (carried_in_bytes meeting (288 + start) m b)

  module _ (S : Type 0) (kb : KeyboardMachine S) where
    -- the model's tick
    pub tick_in_bytes : (changes : List (ℕ × Bool)) (start rest : ℕ) (m : Whole S) → IsInBytes m.side
        → IsInBytes (whole_tick kb events changes start rest m).side
    tick_in_bytes changes start rest m b =
        let look : Side UnderWay = to_look events m.shown (kb.lights m.keys) start m.side in
        let met = meeting_in_bytes start look (look_in_bytes m.shown (kb.lights m.keys) start m.side b) in
        rest_in_bytes start rest (begins_from kb events start m) (to_meeting events start look) met

    -- the model at a first start
    pub first_in_bytes : (cycle : ℕ) → IsInBytes (at_first kb events cycle).side
    first_in_bytes cycle = quiet_in_bytes (cycle - 4096) 4096 (side_at_start UnderWay) starts_in_bytes
