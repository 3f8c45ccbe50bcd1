-- A frame that is cut in its last cell but one: the controller pulls the clock where its next edge would be.
use Rattle.std.proofs.Common.{◌≡◌, ◌≤◌, ◌<◌, ℕ, ◌+◌, ◌-◌, ◌/◌, List, false, Some, refl, inl, inr, ap, sym, ◌∙◌, subst, arith}
use Rattle.board_terms.specs.declared.event.HostEvent.{HostEvent}
use Rattle.ctl_link.specs.Link.{is_busy}
use Rattle.ctl_link.specs.Pulls.{pulled}
use Rattle.law_fw_link.proofs.Wired.{IsReleased}
use Rattle.law_fw_link.specs.Latch.{Frame, NoFrame, SentFrame, CutFrame, ReceivedFrame, IsLook}
use Rattle.joint_run.specs.Joint.{Beside}
use Rattle.law_wires_heard.proofs.Clock.{cells, Fits}
use Rattle.law_wires_heard.proofs.Pulls.{link_of, lets}
use Rattle.law_wires_heard.proofs.Spans.{low_stays}
use Rattle.law_wires_heard.proofs.Ticks.{beside}
use Rattle.law_agreement.specs.Wires.{IsCutBy}

-- the look that cuts a frame of ten cells
is_last : (look : ℕ) → IsLook look → (look + 4) / 32 ≡ 10 → look ≡ 334
is_last look (inl e) ten = absurd (omega (arith, e, ten))
is_last look (inr (inl e)) ten = absurd (omega (arith, e, ten))
is_last look (inr (inr (k, few, inl e))) ten = omega (arith, e, ten)
is_last look (inr (inr (k, few, inr (e, more)))) ten = absurd (omega (arith, e, more, ten))

module _ (events : List HostEvent) (x : ℕ) (start : Beside) (old v : ℕ) (was : IsReleased old) (is : IsReleased v) where
  -- in a frame that is cut after ten falls the controller pulls the clock in the cycles of the eleventh
  pub is_broken : (frame : Frame) (fits : Fits old v was is frame) (idle : is_busy (link_of start) ≡ false)
      → IsCutBy (λ o. link_of (beside events x start old v was is frame fits idle o)) x frame → cells frame ≡ 10
      → (o : ℕ) → 594 ≤ o → o ≤ 620 → lets (beside events x start old v was is frame fits idle o) ≡ false
  is_broken NoFrame fits idle cut ten o l u = absurd (omega (arith, ten))
  is_broken (SentFrame byte) fits idle cut ten o l u = absurd (omega (arith, ten))
  is_broken (CutFrame byte look) fits idle cut ten o l u =
      let last : look ≡ 334 = is_last look fits ten in
      let few : 8 < 10 = omega arith in
      let since : x + (260 + 312) ≤ cut.0 = cut.3 312 (inr (inr (8, few, inr (refl, omega arith)))) (omega (arith, last)) in
      let at : 260 + look ≡ 594 = omega (arith, last) in
      let there : pulled (link_of (beside events x start old v was is (CutFrame byte look) fits idle 594)) ≡ Some cut.0 =
      subst (λ k. pulled (link_of (beside events x start old v was is (CutFrame byte look) fits idle k)) ≡ Some cut.0) at cut.1 in
      let z : 594 + (o - 594) ≡ o = omega (arith, l) in
      ap (λ k. lets (beside events x start old v was is (CutFrame byte look) fits idle k)) (sym z)
      ∙ low_stays events x start old v was is (CutFrame byte look) fits idle 594 (o - 594) cut.0 there (omega (arith, l, u, since))
  is_broken ReceivedFrame fits idle cut ten o l u = absurd (omega (arith, ten))
