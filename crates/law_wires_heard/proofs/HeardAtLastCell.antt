-- A tick with a frame of eleven cells: what is heard at the last is what ends there.
use Rattle.std.proofs.Common.{◌≡◌, ◌≤◌, ◌<◌, ℕ, ◌+◌, ◌*◌, List, Bool, true, false, refl, ap, ◌∙◌, inl, inr, arith}
use Rattle.board_terms.specs.declared.event.HostEvent.{HostEvent}
use Rattle.ctl_link.specs.Link.{is_busy}
use Rattle.run_probes.specs.Transfers.{transfer_in}
use Rattle.law_fw_link.proofs.Wired.{IsReleased}
use Rattle.law_fw_link.proofs.Wires.{look_within}
use Rattle.law_fw_link.specs.Latch.{Frame, NoFrame, SentFrame, CutFrame, ReceivedFrame, IsLook}
use Rattle.joint_run.specs.Joint.{Beside, latch_of}
use Rattle.ctl_wire.specs.Wires.{wires}
use Rattle.law_agreement.specs.Wires.{GoesWith}
use Rattle.law_wires_heard.proofs.Clock.{cells, Fits}
use Rattle.law_wires_heard.proofs.CellFalls.{eleven_of}
use Rattle.law_wires_heard.proofs.Pulls.{link_of, lets}
use Rattle.law_wires_heard.proofs.Received as received
use Rattle.law_wires_heard.proofs.Sent as sent
use Rattle.law_wires_heard.proofs.Ticks.{latch, beside}
use Rattle.law_wires_heard.specs.Hearing.{listed}
use Rattle.law_wires_heard.specs.Passing.{ended_in}

module _ (events : List HostEvent) (x : ℕ) (start : Beside) (old v : ℕ) (was : IsReleased old) (is : IsReleased v)
    (idle : is_busy (link_of start) ≡ false) where
  -- in the frame the controller leaves the clock alone; after it, it pulls it all along, or leaves it alone; and the
  -- transfer by the data at the falls is the byte that ends
  pub record IsWhole (frame : Frame) (fits : Fits old v was is frame) : Type 0 where
    pub opens : (o : ℕ) → 288 ≤ o → o ≤ 608 → lets (beside events x start old v was is frame fits idle o) ≡ true
    pub steady : (b : Bool) × ((o : ℕ) → 609 ≤ o → o ≤ 650 → lets (beside events x start old v was is frame fits idle o) ≡ b)
    pub so : listed (transfer_in (eleven_of (λ k.
        (wires (latch_of (latch events x start old v was is frame fits idle (289 + 32 * k)))
        (beside events x start old v was is frame fits idle (290 + 32 * k)).pc).dat)))
        ≡ ended_in (latch_of (latch events x start old v was is frame fits idle 608))
        (beside events x start old v was is frame fits idle 608).pc

  -- the looks of the cells are among those at which the controller leaves the clock alone
  pub looks : (byte : ℕ) (fits : Fits old v was is (SentFrame byte))
      → ((look : ℕ) → IsLook look → lets (beside events x start old v was is (SentFrame byte) fits idle (260 + look)) ≡ true)
      → (k : ℕ) → k < 10 → lets (beside events x start old v was is (SentFrame byte) fits idle (306 + 32 * k)) ≡ true
  looks byte fits h k l =
      let z : 306 + 32 * k ≡ 260 + (46 + 32 * k) = omega arith in
      ap (λ o. lets (beside events x start old v was is (SentFrame byte) fits idle o)) z
      ∙ h (46 + 32 * k) (inr (inr (k, l, inl refl)))

  -- in a frame of eleven cells that isn't cut the data at the falls are the byte that ends
  pub whole : (frame : Frame) (fits : Fits old v was is frame)
      → GoesWith (λ o. (beside events x start old v was is frame fits idle o).pc) frame → cells frame ≡ 11 → IsWhole frame fits
  whole NoFrame fits h all = absurd (omega (arith, all))
  whole (SentFrame byte) fits h all = record {
    opens = sent.opens events x start old v was is byte idle h.0 h.1 h.2 (looks byte fits h.3);
    steady = (false, sent.steady events x start old v was is byte idle h.0 h.1 h.2 (looks byte fits h.3));
    so = sent.heard_so events x start old v was is byte idle h.0 h.1 h.2 (looks byte fits h.3);
  }
  whole (CutFrame byte look) fits h all = absurd (let below : look ≤ 334 = look_within look fits in omega (arith, all, below))
  whole ReceivedFrame fits h all = record {
    opens = received.opens events x start old v was is idle h.0 h.1 h.2 h.3;
    steady = (true, received.steady events x start old v was is idle h.0 h.1 h.2 h.3);
    so = received.heard_so events x start old v was is idle h.0 h.1 h.2 h.3;
  }
