-- What the controller does in a frame that isn't cut: it is free where a byte is sent, and leaves the clock alone at each
-- look; it requests to send one where one is received.
use Rattle.std.proofs.Common.{◌≡◌, ◌<◌, ◌⊎◌, inl, inr, ℕ, ◌+◌, List, Bool, true, false, Some, None}
use Rattle.std.proofs.Common.{refl, ap, sym, ◌∙◌, subst, arith}
use Rattle.std.specs.declared.option.Option.{Option}
use Rattle.board_terms.specs.declared.event.Edge.{Edge}
use Rattle.board_terms.specs.declared.event.HostEvent.{HostEvent}
use Rattle.board_terms.specs.declared.lines.Lines.{Lines}
use Rattle.model_controller.specs.declared.meeting.Meeting.{Meeting}
use Rattle.model_controller.specs.declared.meeting.Meeting.TheVariants.{Got, Inhibited, Idle, Sent, Cut}
use Rattle.ctl_link.specs.declared.link.Link.{Link}
use Rattle.ctl_link.specs.declared.link.Link.TheVariants.{Free, Hold, Ask, Request, Busy}
use Rattle.ctl_wire.specs.Wire.{drive}
use Rattle.ctl_wire.specs.declared.wire.Wire.{Wire}
use Rattle.law_fw_keys.specs.Frameless.{latch_now}
use Rattle.law_fw_link.proofs.Lets.{lets_at, as_cycle, pulled_look}
use Rattle.law_fw_link.proofs.Outside.{sent_lines, received_lines}
use Rattle.law_fw_link.proofs.Over.{itself}
use Rattle.law_fw_link.proofs.TickLatch.{lines_by}
use Rattle.law_fw_link.proofs.Wired.{IsReleased}
use Rattle.law_fw_link.specs.Latch.{Frame, NoFrame, SentFrame, CutFrame, ReceivedFrame, IsLook, tick_latch}
use Rattle.joint_run.specs.Joint.{Beside, joint_board, lights_of}
use Rattle.joint_run.specs.Run.{World}
use Rattle.ctl_wire.specs.Wires.{Pc}
use Rattle.law_wires_agree.proofs.Meetings.{free_at, request_at}
use Rattle.law_wires_agree.proofs.Spans.{IsAt}
use Rattle.law_wires_agree.specs.Ticks.{at_meeting}
use Rattle.law_agreement.proofs.Frames.{FirstLow, free_or_not, first_low, frame_offered, frame_free, frame_ended, frame_in}
use Rattle.law_agreement.proofs.Happened.{at_look}
use Rattle.law_agreement.proofs.OnWires.{at_clock_look, after_clock}
use Rattle.law_agreement.specs.Wires.{GoesWith, IsAskedFor, IsFrameOf, beside_in}

module _ (events : List HostEvent) (v start : ℕ) (released : IsReleased v) (look : Pc) where
  abbrev lines : Frame → ℕ → Lines
  lines frame = lines_by frame v start released

  -- whether the controller leaves the clock alone at a look of a byte's whole frame
  abbrev lets : ℕ → ℕ → Bool
  lets byte number = lets_at events (lines (SentFrame byte)) start look number

  -- a frame that isn't cut, by the PC's side at its first edge
  abbrev pub With : Frame → Type 0
  With NoFrame = Unit {0}
  With (SentFrame byte) =
      (byte < 256) × IsAt (at_meeting events (lines (SentFrame byte)) start look) Free true
      × ((number : ℕ) → IsLook number → lets byte number ≡ true)
  With (CutFrame byte cut) = Unit {0}
  With ReceivedFrame =
      (byte : ℕ) × (byte < 256) × IsAt (at_meeting events (lines ReceivedFrame) start look) (Request byte) true

  -- a link that is let at the look of the first cell is free at the first edge
  there : (byte : ℕ) → look.side.port.link ≡ Free → lets byte 46 ≡ true
      → (at_meeting events (lines (SentFrame byte)) start look).side.port.link ≡ Free
  there byte free high =
      elim (free_or_not (at_meeting events (lines (SentFrame byte)) start look).side.port.link) [
        | inl still ↦ still
        | inr gone ↦
            let low : lets byte 46 ≡ false =
            as_cycle events (lines (SentFrame byte)) start look 46 18 refl
            ∙ pulled_look events (lines (SentFrame byte)) start look (sent_lines v start released byte 0).0 free gone in
            absurd (cc (high, low))
      ]

  offered : (byte : ℕ) → byte < 256 → look.side.port.link ≡ Free → With (frame_offered byte (first_low (lets byte)))
  offered byte small free = by (first_low (lets byte))
    where
      by : (looks : ((number : ℕ) → IsLook number → lets byte number ≡ true) ⊎ (FirstLow (lets byte)))
          → With (frame_offered byte looks)
      by (inl leaves) = (
        small,
        free_at events (lines (SentFrame byte)) (256 + start) look
            (λ o a u. (sent_lines v start released byte 0).0 o a (omega (arith, u))) free
            (there byte free (leaves 46 (inr (inr (0, omega arith, inl refl))))),
        leaves,
      )
      by (inr first) = tt

  abbrev each : ℕ → Frame
  each byte = frame_offered byte (first_low (lets byte))

  by_offer : (o : Option ℕ) → ((byte : ℕ) → o ≡ Some byte → byte < 256) → look.side.port.link ≡ Free
      → With (frame_free each o)
  by_offer None small free = tt
  by_offer (Some byte) small free = offered byte (small byte refl) free

  -- what the controller asks to be taken and what is offered are bytes
  module _ (o : Option ℕ) (asked : (byte : ℕ) → look.side.port.link ≡ Request byte → byte < 256)
      (small : (byte : ℕ) → o ≡ Some byte → byte < 256) where
    by_link : (l : Link Wire) → look.side.port.link ≡ l → With (frame_ended (frame_free each o) l)
    by_link Free e = by_offer o small e
    by_link (Hold since) e = tt
    by_link (Ask byte since) e = tt
    by_link (Request byte) e = (
      byte,
      asked byte e,
      request_at events (lines ReceivedFrame) (256 + start) look byte
          (λ o a u. (received_lines v start released 0).0 o a (omega (arith, u))) e,
    )
    by_link (Busy x) e = tt

    -- a tick's frame that isn't cut fits what the controller does
    pub together : (tests : Bool) → With (frame_in events lines start look tests o)
    together false = tt
    together true = by_link look.side.port.link refl

-- in the words of the joint run
module _ (edges : List Edge) (events : List HostEvent) (w : World Beside)
    (lit : lights_of w.cpu.p2 ≡ w.board.shown) (released : IsReleased (latch_now (joint_board edges events) w)) where
  abbrev v : ℕ
  v = latch_now (joint_board edges events) w

  abbrev pc : Frame → ℕ → Pc
  pc frame o = (beside_in edges events (tick_latch w.cpu.p2 v frame) w o).pc

  -- at the first edge
  at_first : (frame : Frame)
      → pc frame 288 ≡ at_meeting events (lines_by frame v w.cycle released) w.cycle (at_look edges events w)
  at_first frame =
      ap (λ (b : Beside). b.pc)
      (after_clock edges events (joint_board edges events) (λ b. b) (itself edges events) w lit released frame 32)

  -- in the words of the joint run too, a tick's frame that isn't cut fits what the controller does
  pub goes_with : (frame : Frame) → With events v w.cycle released (at_look edges events w) frame
      → GoesWith (pc frame) frame
  goes_with NoFrame h = tt
  goes_with (SentFrame byte) h = (
    h.0,
    ap (λ (c : Pc). c.side.port.link) (at_first (SentFrame byte)) ∙ h.1.link_is,
    ap (λ (c : Pc). c.clock) (at_first (SentFrame byte)) ∙ h.1.clock_is,
    λ number is. ap (λ (c : Pc). (drive c.side.port.link).clk)
        (at_clock_look edges events (joint_board edges events) (λ b. b) (itself edges events) w lit released (SentFrame byte)
        number)
        ∙ h.2 number is,
  )
  goes_with (CutFrame byte cut) h = tt
  goes_with ReceivedFrame h = (
    h.0,
    h.1,
    ap (λ (c : Pc). c.side.port.link) (at_first ReceivedFrame) ∙ h.2.link_is,
    ap (λ (c : Pc). c.clock) (at_first ReceivedFrame) ∙ h.2.clock_is,
  )

  -- a byte that is received was requested at the look at the clock, and is at the first edge
  pub asks_for : (offered : Option ℕ) (met : Meeting) (frame : Frame) → IsFrameOf offered met frame
      → ((byte : ℕ) → met ≡ Got byte → (at_look edges events w).side.port.link ≡ Request byte)
      → IsAskedFor (pc frame) met
  asks_for offered (Got byte) frame fits asks =
      let received : ℕ → Lines = lines_by ReceivedFrame v w.cycle released in
      let there = request_at events received (256 + w.cycle) (at_look edges events w) byte
      (λ o a u. (received_lines v w.cycle released 0).0 o a (omega (arith, u))) (asks byte refl) in
      subst (λ f. (pc f 288).side.port.link ≡ Request byte) (sym fits)
      (ap (λ (c : Pc). c.side.port.link) (at_first ReceivedFrame) ∙ there.link_is)
  asks_for offered (Sent byte) frame fits asks = tt
  asks_for offered Cut frame fits asks = tt
  asks_for offered Inhibited frame fits asks = tt
  asks_for offered Idle frame fits asks = tt
