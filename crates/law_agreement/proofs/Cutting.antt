-- Where a frame is cut: its look is the first after the cycle in which the controller began to pull the clock.
use Rattle.std.proofs.Common.{◌≡◌, ◌≤◌, ◌<◌, ◌⊎◌, inl, inr, ℕ, ◌+◌, List, Bool, true, false, Some, None}
use Rattle.std.proofs.Common.{refl, ap, ◌∙◌, arith}
use Rattle.std.specs.declared.option.Option.{Option}
use Rattle.board_terms.specs.declared.event.Edge.{Edge}
use Rattle.board_terms.specs.declared.event.HostEvent.{HostEvent}
use Rattle.board_terms.specs.declared.lines.Lines.{Lines}
use Rattle.ctl_link.specs.Pulls.{pulled}
use Rattle.ctl_link.specs.declared.link.Link.{Link}
use Rattle.ctl_link.specs.declared.link.Link.TheVariants.{Free, Hold, Ask, Request, Busy}
use Rattle.ctl_wire.specs.Wire.{drive}
use Rattle.ctl_wire.specs.declared.wire.Wire.{Wire}
use Rattle.law_fw_keys.specs.Frameless.{latch_now}
use Rattle.law_fw_link.proofs.Lets.{lets_at}
use Rattle.law_fw_link.proofs.Over.{itself}
use Rattle.law_fw_link.proofs.TickLatch.{lines_by}
use Rattle.law_fw_link.proofs.Ticked.{cut_sides}
use Rattle.law_fw_link.proofs.Wired.{IsReleased}
use Rattle.law_fw_link.specs.Latch.{Frame, NoFrame, SentFrame, CutFrame, ReceivedFrame, IsLook, tick_latch}
use Rattle.joint_run.specs.Joint.{Beside, joint_board, lights_of}
use Rattle.joint_run.specs.Run.{World}
use Rattle.ctl_wire.specs.Wires.{Pc}
use Rattle.law_wires_agree.specs.Cycles.{board_cycles}
use Rattle.law_agreement.proofs.CutLooks.{since}
use Rattle.law_agreement.proofs.Frames.{FirstLow, first_low, frame_offered, frame_free, frame_ended, frame_in}
use Rattle.law_agreement.proofs.Happened.{at_look}
use Rattle.law_agreement.proofs.OnWires.{at_clock_look}
use Rattle.law_agreement.specs.Wires.{IsCutBy, beside_in}

module _ (events : List HostEvent) (latch start : ℕ) (released : IsReleased latch) (look : Pc) where
  abbrev lines : Frame → ℕ → Lines
  lines frame = lines_by frame latch start released

  -- the controller's link at a look
  abbrev pub link_at : Frame → ℕ → Link Wire
  link_at frame number = (board_cycles events (lines frame) (4 + number) (256 + start) look).side.port.link

  -- a frame that is cut, by the PC's side
  abbrev pub Since : Frame → Type 0
  Since NoFrame = Unit {0}
  Since (SentFrame byte) = Unit {0}
  Since (CutFrame byte cut) =
      (since : ℕ) × (pulled (link_at (CutFrame byte cut) cut) ≡ Some since) × (start + 256 ≤ since)
      × ((earlier : ℕ) → IsLook earlier → earlier < cut → start + (260 + earlier) ≤ since)
      × ((earlier : ℕ) → IsLook earlier → earlier < cut → (drive (link_at (CutFrame byte cut) earlier)).clk ≡ true)
  Since ReceivedFrame = Unit {0}

  abbrev lets : ℕ → ℕ → Bool
  lets byte number = lets_at events (lines (SentFrame byte)) start look number

  offered : (byte : ℕ) → look.side.port.link ≡ Free → Since (frame_offered byte (first_low (lets byte)))
  offered byte free = by (first_low (lets byte))
    where
      by : (looks : ((number : ℕ) → IsLook number → lets byte number ≡ true) ⊎ (FirstLow (lets byte)))
          → Since (frame_offered byte looks)
      by (inl leaves) = tt
      by (inr first) =
          let known = since events latch start released look byte free first in (
            known.since,
            ap (λ (pc : Pc). pulled pc.side.port.link)
                (cut_sides latch start byte released events first.look (4 + first.look) (256 + start) look first.is
                (omega arith))
                ∙ known.pulls,
            known.from,
            known.afterwards,
            λ earlier is l.
                ap (λ (pc : Pc). (drive pc.side.port.link).clk)
                (cut_sides latch start byte released events first.look (4 + earlier) (256 + start) look first.is
                (omega (arith, l)))
                ∙ first.before earlier is l,
          )

  abbrev each : ℕ → Frame
  each byte = frame_offered byte (first_low (lets byte))

  by_offer : (offer : Option ℕ) → look.side.port.link ≡ Free → Since (frame_free each offer)
  by_offer None free = tt
  by_offer (Some byte) free = offered byte free

  by_link : (offer : Option ℕ) (link : Link Wire) → look.side.port.link ≡ link → Since (frame_ended (frame_free each offer) link)
  by_link offer Free is = by_offer offer is
  by_link offer (Hold since) is = tt
  by_link offer (Ask byte since) is = tt
  by_link offer (Request byte) is = tt
  by_link offer (Busy x) is = tt

  -- the frame of a tick is cut so
  pub cut_since : (tests : Bool) (offer : Option ℕ) → Since (frame_in events lines start look tests offer)
  cut_since false offer = tt
  cut_since true offer = by_link offer look.side.port.link refl

-- in the words of the joint run
module _ (edges : List Edge) (events : List HostEvent) (world : World Beside)
    (lit : lights_of world.cpu.p2 ≡ world.board.shown) (released : IsReleased (latch_now (joint_board edges events) world)) where
  abbrev latch : ℕ
  latch = latch_now (joint_board edges events) world

  -- a frame that is cut is cut at the first look after the controller began to pull the clock
  pub is_cut_by : (frame : Frame) → Since events latch world.cycle released (at_look edges events world) frame
      → IsCutBy (λ offset. (beside_in edges events (tick_latch world.cpu.p2 latch frame) world offset).pc.side.port.link) world.cycle frame
  is_cut_by NoFrame since = tt
  is_cut_by (SentFrame byte) since = tt
  is_cut_by (CutFrame byte cut) since = (
    since.0,
    ap (λ (pc : Pc). pulled pc.side.port.link)
        (at_clock_look edges events (joint_board edges events) (λ board. board) (itself edges events) world lit released
        (CutFrame byte cut) cut)
        ∙ since.1,
    since.2,
    since.3,
    λ earlier looks l.
        ap (λ (pc : Pc). (drive pc.side.port.link).clk)
        (at_clock_look edges events (joint_board edges events) (λ board. board) (itself edges events) world lit released
        (CutFrame byte cut) earlier)
        ∙ since.4 earlier looks l,
  )
  is_cut_by ReceivedFrame since = tt
