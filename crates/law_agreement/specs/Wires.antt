-- What the keyboard drives on the two wires in each tick of the joint run.
use Rattle.std.specs.Prelude.{◌≡◌, ◌≤◌, ◌<◌, ℕ, ◌+◌, ◌-◌, ◌*◌, true, false, nat_le, if◌then◌else◌, List}
use Rattle.std.specs.Prelude.{Some}
use Rattle.std.specs.declared.option.Option.{Option}
use Rattle.bits.specs.Bits.{bit}
use Rattle.board_terms.specs.declared.event.Edge.{Edge}
use Rattle.board_terms.specs.declared.event.HostEvent.{HostEvent}
use Rattle.model_controller.specs.declared.meeting.Meeting.{Meeting}
use Rattle.model_controller.specs.declared.meeting.Meeting.TheVariants.{Got, Inhibited, Idle, Sent, Cut}
use Rattle.ctl_link.specs.Link.{is_busy}
use Rattle.ctl_link.specs.Pulls.{pulled}
use Rattle.ctl_link.specs.declared.link.Link.{Link}
use Rattle.ctl_link.specs.declared.link.Link.TheVariants.{Free, Request}
use Rattle.ctl_wire.specs.Wire.{drive}
use Rattle.ctl_wire.specs.declared.wire.Wire.{Wire}
use Rattle.fw_compile.specs.Image.{image_of}
use Rattle.fw_kernel.specs.declared.labels.TheConstants.{TICK}
use Rattle.law_fw_link.specs.Drives.{Drives, DrivesTick}
use Rattle.law_fw_logic.specs.Selecting.{column_latch, Selects}
use Rattle.law_fw_link.specs.Latch.{Frame, NoFrame, SentFrame, CutFrame, ReceivedFrame, IsLook, tick_latch}
use Rattle.joint_run.specs.Joint.{Beside, joint_board}
use Rattle.joint_run.specs.Run.{World, joint_step, after_cycles}
use Rattle.joint_run.specs.Starts.{at_tick, calm, IsStart}
use Rattle.key_file.specs.Accepted.{IsLawfulFor}
use Rattle.key_file.specs.Histories.{KeyHistory}
use Rattle.layout_reader.specs.Layouts.{KeyLayout, IsKeyLayout}
use Rattle.model_link.specs.Expected.{meeting_from, whole_at}
use Rattle.model_link.specs.Machine.{KeyboardMachine, keyboard}
use Rattle.mcs48_core.specs.Cpu.{Cpu}
use Rattle.mcs48_ranges.specs.Sizes.{IsFine}
use Rattle.ctl_wire.specs.Wires.{Pc}
use Rattle.law_agreement.specs.Agreement.{switched_on}

-- the frame of a tick with this meeting, if the keyboard offers this byte: the byte that is sent; the byte offered,
-- cut at a look; the frame in which the controller's byte is received; or none
abbrev pub IsFrameOf : Option ℕ → Meeting → Frame → Type 0
IsFrameOf offered (Sent byte) frame = frame ≡ SentFrame byte
IsFrameOf offered Cut (CutFrame byte look) = (offered ≡ Some byte) × IsLook look
IsFrameOf offered Cut NoFrame = ⊥
IsFrameOf offered Cut (SentFrame byte) = ⊥
IsFrameOf offered Cut ReceivedFrame = ⊥
IsFrameOf offered (Got byte) frame = frame ≡ ReceivedFrame
IsFrameOf offered Inhibited frame = frame ≡ NoFrame
IsFrameOf offered Idle frame = frame ≡ NoFrame

-- what is beside the processor so many cycles past a tick's start, if the latch of port 2 is this, by the offset
abbrev pub beside_in : List Edge → List HostEvent → (ℕ → ℕ) → World Beside → ℕ → Beside
beside_in edges events latch w n =
    after_cycles n 0 (λ o. (joint_board edges events).cycle (latch o) (w.cycle + o)) w.board

-- a frame is cut at the first look after the cycle in which the controller began to pull the clock: by the controller's
-- link at each offset, it pulls there, since a cycle that isn't earlier than the tick's own look, nor than the looks
-- before; and at these it leaves the clock alone
abbrev pub IsCutBy : (ℕ → Link Wire) → ℕ → Frame → Type 0
IsCutBy link start NoFrame = Unit {0}
IsCutBy link start (SentFrame byte) = Unit {0}
IsCutBy link start (CutFrame byte look) =
    (since : ℕ) × (pulled (link (260 + look)) ≡ Some since) × (start + 256 ≤ since)
    × ((earlier : ℕ) → IsLook earlier → earlier < look → start + (260 + earlier) ≤ since)
    × ((earlier : ℕ) → IsLook earlier → earlier < look → (drive (link (260 + earlier))).clk ≡ true)
IsCutBy link start ReceivedFrame = Unit {0}

-- what the controller does in a tick with this frame, by the PC's side at each offset. At the first edge it has seen
-- the clock high. If a byte is sent its link is free there, and at each look it leaves the clock alone; if one is
-- received it requests to send it
abbrev pub GoesWith : (ℕ → Pc) → Frame → Type 0
GoesWith pc NoFrame = Unit {0}
GoesWith pc (SentFrame byte) =
    (byte < 256) × ((pc 288).side.port.link ≡ Free) × ((pc 288).clock ≡ true)
    × ((look : ℕ) → IsLook look → (drive (pc (260 + look)).side.port.link).clk ≡ true)
GoesWith pc (CutFrame byte look) = Unit {0}
GoesWith pc ReceivedFrame =
    (byte : ℕ) × (byte < 256) × ((pc 288).side.port.link ≡ Request byte) × ((pc 288).clock ≡ true)

-- a byte that is received is the one that the link requests to send at the first edge
abbrev pub IsAskedFor : (ℕ → Pc) → Meeting → Type 0
IsAskedFor pc (Got byte) = (pc 288).side.port.link ≡ Request byte
IsAskedFor pc (Sent byte) = Unit {0}
IsAskedFor pc Cut = Unit {0}
IsAskedFor pc Inhibited = Unit {0}
IsAskedFor pc Idle = Unit {0}

-- a latch of port 2 that pulls neither wire: bit 0 drives the clock, bit 1 data
abbrev pub IsLetGo : ℕ → Type 0
IsLetGo v = (v < 256) × (bit 0 v ≡ true) × (bit 1 v ≡ true)

-- a tick of the joint run from its start: the run reaches the next start, and in each cycle on the way the latch of
-- port 2 is that of a tick with the meeting's frame; outside the frame it pulls neither wire, and bits 4 to 6 alone, the
-- lights, can be 0. A frame that is cut is cut at the first look that can see it; the controller goes with one that isn't.
-- No byte is under way at its start. Port 1 selects each column in its cycles, and none in between: up to the first tick, which starts
-- in cycle 4,096 or in the next, it is as reset leaves it
pub record DrivesFrame (edges : List Edge) (events : List HostEvent) (bytes : List ℕ) (offered : Option ℕ)
    (meeting : Meeting) (w : World Beside) : Type 0 where
  pub frame : Frame
  pub of_meeting : IsFrameOf offered meeting frame
  pub before : IsLetGo w.cpu.p2
  pub lit : ℕ
  pub afterwards : IsLetGo lit
  pub lamps : (lights : ℕ) × (lights < 8) × (lit ≡ 255 - 16 * lights)
  pub idle : is_busy w.board.pc.side.port.link ≡ false
  pub goes_with : GoesWith (λ o. (beside_in edges events (tick_latch w.cpu.p2 lit frame) w o).pc) frame
  pub asked : IsAskedFor (λ o. (beside_in edges events (tick_latch w.cpu.p2 lit frame) w o).pc) meeting
  pub cut : IsCutBy (λ o. (beside_in edges events (tick_latch w.cpu.p2 lit frame) w o).pc.side.port.link) w.cycle frame
  pub drives : DrivesTick (joint_board edges events) TICK bytes w
      (λ c. tick_latch w.cpu.p2 lit frame (c - w.cycle))
      (λ e. (at_tick (joint_board edges events) TICK e ≡ true) × (e.cpu.p2 ≡ lit))
  pub none : w.cpu.p1 ≡ (if nat_le w.cycle 4097 then 255 else 44)
  pub columns : Selects (joint_board edges events) TICK bytes w (λ c. column_latch w.cpu.p1 (c - w.cycle))

-- so it is in each tick of a run, with the meeting that the model has in the tick of that number, if its ticks start
-- when the run's do; and from power-on to the first start the latches stay as reset leaves them: port 2 pulls no wire
-- and lights no light, port 1 selects no column
pub record DrivesWires {S : Type 0} (from : World Beside) (bytes : List ℕ) (kb : KeyboardMachine S) (edges : List Edge)
    (events : List HostEvent) : Type 0 where
  pub first : Drives (joint_board edges events) TICK bytes from (λ c. 255)
      (λ e. at_tick (joint_board edges events) TICK e ≡ true)
  pub dark : (k : ℕ) (one next : World Beside) → calm (joint_board edges events) TICK bytes k from ≡ Some one
      → at_tick (joint_board edges events) TICK one ≡ false
      → joint_step (joint_board edges events) bytes one ≡ Some next → next.cpu.p1 ≡ 255
  pub starts : ℕ → ℕ
  pub each : (n : ℕ) → IsStart (joint_board edges events) TICK bytes from n (starts n)
  pub frames : (n stamp : ℕ) (s : IsStart (joint_board edges events) TICK bytes from n stamp)
      → DrivesFrame edges events bytes (kb.offer (whole_at kb edges events starts n).keys)
      (meeting_from kb events s.state.cycle (whole_at kb edges events starts n)) s.state

-- for every layout and every history that is lawful for it, whatever a part holds when it is switched on
abbrev pub WiresLaw : Type 0
WiresLaw =
    (layout : KeyLayout) (history : KeyHistory) → IsKeyLayout layout → IsLawfulFor layout history
    → (m : Cpu) → IsFine m
    → DrivesWires (switched_on history.edges history.host m) (image_of layout) (keyboard layout) history.edges
    history.host
