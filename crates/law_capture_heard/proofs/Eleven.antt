-- A frame of eleven cells: who sends it, and what the wires show in it.
use Rattle.std.proofs.Common.{◌≡◌, ◌≤◌, ◌<◌, ℕ, ◌+◌, ◌-◌, ◌*◌, List, [], ◌∷◌, Bool, true, false, refl, ap, sym, ◌∙◌, arith}
use Rattle.std.specs.Prelude.{take, drop}
use Rattle.law_agreement.specs.Wires.{GoesWith}
use Rattle.board_terms.specs.declared.transfer.Transfer.{Transfer}
use Rattle.board_terms.specs.Bits.{value}
use Rattle.board_terms.specs.declared.event.HostEvent.{HostEvent}
use Rattle.ctl_link.specs.Link.{is_busy}
use Rattle.ctl_link.specs.declared.link.Link.TheVariants.{Free}
use Rattle.ctl_wire.specs.Wires.{wires}
use Rattle.law_fw_link.proofs.Wired.{IsReleased}
use Rattle.law_fw_link.proofs.Wires.{look_within}
use Rattle.law_fw_link.specs.Latch.{Frame, NoFrame, SentFrame, CutFrame, ReceivedFrame, frame_bit}
use Rattle.joint_run.specs.Joint.{Beside, latch_of}
use Rattle.law_wires_heard.proofs.CellFalls.{eleven_of}
use Rattle.law_wires_heard.proofs.Clock.{Fits, cells}
use Rattle.law_wires_heard.proofs.HeardAtLastCell.{looks}
use Rattle.law_wires_heard.proofs.Pulls.{link_of, lets}
use Rattle.law_wires_heard.proofs.Received as received
use Rattle.law_wires_heard.proofs.Sent as sent
use Rattle.law_wires_heard.proofs.Ticks.{latch, beside}
use Rattle.law_wires_heard.specs.Passing.{ended_in}
use Rattle.law_capture_heard.proofs.Links.{requests}

module _ (events : List HostEvent) (x : ℕ) (start : Beside) (old v : ℕ) (was : IsReleased old) (is : IsReleased v)
    (idle : is_busy (link_of start) ≡ false) where
  -- what the controller does in the frame; `by_host` says that it sends it
  pub record IsEleven (frame : Frame) (fits : Fits old v was is frame) : Type 0 where
    pub by_host : Bool
    pub asks : requests (link_of (beside events x start old v was is frame fits idle 288)) ≡ by_host
    pub passes : Transfer
    pub ends : ended_in (latch_of (latch events x start old v was is frame fits idle 608))
        (beside events x start old v was is frame fits idle 608).pc ≡ passes ∷ []
    pub sender : passes.from_host ≡ by_host
    pub rises : by_host ≡ true → (k : ℕ) → k < 10
        → (wires (latch_of (latch events x start old v was is frame fits idle (305 + 32 * k)))
        (beside events x start old v was is frame fits idle (306 + 32 * k)).pc).dat
        ≡ (wires (latch_of (latch events x start old v was is frame fits idle (289 + 32 * k)))
        (beside events x start old v was is frame fits idle (290 + 32 * k)).pc).dat
    pub afterwards : by_host ≡ true → (o : ℕ) → 609 ≤ o → link_of (beside events x start old v was is frame fits idle o) ≡ Free
    pub low : by_host ≡ false → (o : ℕ) → 609 ≤ o → o ≤ 650 → lets (beside events x start old v was is frame fits idle o) ≡ false

  -- so it is in each frame that goes with the controller
  pub eleven : (frame : Frame) (fits : Fits old v was is frame)
      → GoesWith (λ o. (beside events x start old v was is frame fits idle o).pc) frame → cells frame ≡ 11 → IsEleven frame fits
  eleven NoFrame fits h all = absurd (omega (arith, all))
  eleven (SentFrame byte) fits h all = record {
    by_host = false;
    asks = ap requests h.1;
    passes = record { from_host = false; byte = value (take 8 (drop 1 (eleven_of (frame_bit byte)))) };
    ends = sent.ends events x start old v was is byte idle h.0 h.1 h.2 (looks events x start old v was is idle byte fits h.3);
    sender = refl;
    rises = λ e. absurd cc;
    afterwards = λ e. absurd cc;
    low = λ e. sent.steady events x start old v was is byte idle h.0 h.1 h.2 (looks events x start old v was is idle byte fits h.3);
  }
  eleven (CutFrame byte look) fits h all = absurd (let below : look ≤ 334 = look_within look fits in omega (arith, all, below))
  eleven ReceivedFrame fits h all = record {
    by_host = true;
    asks = ap requests h.2;
    passes = record { from_host = true; byte = h.0 };
    ends = received.ends events x start old v was is idle h.0 h.1 h.2 h.3;
    sender = refl;
    rises = λ e k l.
        received.rise_data events x start old v was is idle h.0 h.1 h.2 h.3 k l
        ∙ sym (received.data_are events x start old v was is idle h.0 h.1 h.2 h.3 k (omega (arith, l)));
    afterwards = λ e o l.
        let z : (o - 609) + 609 ≡ o = omega (arith, l) in
        ap (λ k. link_of (beside events x start old v was is ReceivedFrame tt idle k)) (sym z)
        ∙ (received.waits_on events x start old v was is idle h.0 h.1 h.2 h.3 (o - 609)).free;
    low = λ e. absurd cc;
  }
