-- What a tick brings to a host that counts ten falls.
use Rattle.std.proofs.Common.{◌≡◌, ◌≤◌, ◌<◌, ℕ, zero, suc, ◌+◌, ◌-◌, ◌*◌, ◌/◌, ◌%◌, ◌==◌, Bool, true, false, nat_le, nat_lt}
use Rattle.std.proofs.Common.{List, length, refl, ap, sym, ◌∙◌, subst, arith, inl, inr}
use Rattle.std.proofs.lemmas.Bool.Decides.{nat_tests}
use Rattle.std.specs.declared.option.Option.{Option}
use Rattle.law_fw_link.specs.Latch.{Frame, NoFrame, CutFrame, SentFrame, IsLook}
use Rattle.law_any_host.proofs.Ears.{Kept, NoFall, more, never}
use Rattle.law_any_host.proofs.FrameLines.{none, sent_clock, sent_up}
use Rattle.law_any_host.proofs.Offsets.{pulled_by}
use Rattle.law_any_host.proofs.Still.{as_sent, cells, room, up_late}
use Rattle.law_any_host.proofs.Tenth.{gives, other, pulling, quiet, same_to, too_few, unfallen}
use Rattle.law_any_host.specs.Ears.{Ear, Gives, Mode, Takes, Tenth, ear_to, fell, taken_at_tenth}
use Rattle.law_any_host.specs.Rules.{Ends}
use Rattle.law_any_host.specs.Ticks.{frame_lines}
use Rattle.law_any_host.specs.Wires.{AreWires, Wiring}

module _ (w : Wiring) (wires : AreWires w) (x y : ℕ) (frame : Frame) (long : x + 2016 ≤ y)
    (drives : (o : ℕ) → x + o < y → w.keyboard (x + o) ≡ frame_lines frame o) where
  abbrev t : ℕ → List (Option ℕ)
  t = taken_at_tenth w

  -- a tick of which no cycle adds a byte
  pub adds_none : ((o : ℕ) → x + o < y → t (suc (x + o)) ≡ t (x + o)) → t y ≡ t x
  adds_none h =
      let z : x + (y - x) ≡ y = omega (arith, long) in
      let p : x + 0 ≡ x = omega arith in
      ap t (sym z) ∙ same_to w wires x 0 (y - x) (omega arith) (λ o l m. h o (omega (arith, m, long))) ∙ ap t p

  -- in a tick without a frame a host that counts ten falls takes no byte
  pub still : frame ≡ NoFrame → t y ≡ t x
  still is =
      adds_none
      (λ o l. quiet w wires (x + o) (inl (ap (λ l. l.clk) (drives o l) ∙ ap (λ f. (frame_lines f o).clk) is ∙ none o)))

  -- a frame that is cut at a look: the host that pulled the clock there had not counted ten falls
  module _ (byte look : ℕ) (is : frame ≡ CutFrame byte look) (at : IsLook look) (far : look ≤ 334)
      (low : (w.pins (x + (260 + look))).clk ≡ false) (first : Ear) (rests : Kept 0 first (ear_to w x))
      (ends : Ends Tenth w) where
    late : (o : ℕ) → 258 + look ≤ o → x + o < y → (w.keyboard (x + o)).clk ≡ true
    late = up_late w wires x y frame long drives byte look is at far low first rests

    sent_so : (o : ℕ) → o < 262 + look → (w.keyboard (x + o)).clk ≡ (frame_lines (SentFrame byte) o).clk
    sent_so = as_sent w wires x y frame long drives byte look is at far low first rests

    -- the only look after the tenth fall is the last
    last_look : IsLook look → 318 < look → look ≡ 334
    last_look (inl e) l = absurd (omega (arith, e, l))
    last_look (inr (inl e)) l = absurd (omega (arith, e, l))
    last_look (inr (inr (k, few, inl e))) l = omega (arith, e, few, l)
    last_look (inr (inr (k, few, inr e))) l = absurd (let a = e.0 in let b = e.1 in omega (arith, a, b, l))

    abbrev c : ℕ
    c = x + 576

    -- at the tenth fall
    counted : look ≡ 334 → t (suc c) ≡ t c
    counted last = by (w.host c).clk refl (fell w c) refl (ear_to w c).mode refl
      where
        by_bits : (bits : List Bool) → (w.host c).clk ≡ true → fell w c ≡ true → (ear_to w c).mode ≡ Takes bits
            → (b : Bool) → (length bits == 9) ≡ b → t (suc c) ≡ t c
        by_bits bits go falls m false other_count = other w wires c bits m other_count
        by_bits bits go falls m true nine =
            let count : length bits ≡ 9 = grind (arith, nat_tests, nine) in
            let enough : x + (266 + look) ≤ y = room w wires x y frame long drives byte look is at far low first rests in
            let up : (i : ℕ) → i < 3 → (w.keyboard (x + (592 + i))).clk ≡ true =
            λ i l. late (592 + i) (omega (arith, last)) (omega (arith, enough, last, l)) in
            let host : (i : ℕ) → i < 3 → (w.host (x + (592 + i))).clk ≡ true =
            λ i l. let p : c + (16 + i) ≡ x + (592 + i) = omega arith in
            ap (λ i. (w.host i).clk) (sym p) ∙ ends c (16 + i) bits m count falls go (omega (arith, l)) in
            let p : 260 + look ≡ 594 = omega (arith, last) in
            elim (pulled_by (λ c. (w.keyboard c).clk) (λ c. (w.host c).clk) (λ c. (w.pins c).clk) (λ c. (w.seen c).clk)
            wires.clock x 592 (up 0 (omega arith)) (up 1 (omega arith)) (up 2 (omega arith))
            (ap (λ i. (w.pins (x + i)).clk) (sym p) ∙ low)) [
              | inl pulls ↦ never (sym (host 0 (omega arith)) ∙ pulls)
              | inr either ↦ elim either [
                | inl pulls ↦ never (sym (host 1 (omega arith)) ∙ pulls)
                | inr pulls ↦ never (sym (host 2 (omega arith)) ∙ pulls)
              ]
            ]

        by : (a : Bool) → (w.host c).clk ≡ a → (f : Bool) → fell w c ≡ f → (m : Mode) → (ear_to w c).mode ≡ m
            → t (suc c) ≡ t c
        by false pulls f falls m mode = pulling w wires c pulls
        by true go false falls m mode = unfallen w wires c falls
        by true go true falls (Gives own n) mode = gives w wires c own n mode
        by true go true falls (Takes bits) mode = by_bits bits go falls mode (length bits == 9) refl

    -- at the fall of a cell
    at_fall : (k : ℕ) → k ≤ 9 → 288 + 32 * k < 258 + look → (b : Bool) → nat_le k 8 ≡ b
        → t (suc (x + (288 + 32 * k))) ≡ t (x + (288 + 32 * k))
    at_fall k few m true s =
        let n : k ≤ 8 = grind (arith, nat_tests, s) in
        let kept : Kept k first (ear_to w (x + (288 + 32 * k))) =
        cells w wires x y frame long drives byte look is at far low first rests k (omega (arith, n)) (omega (arith, m)) in
        too_few w wires (x + (288 + 32 * k)) (more (ear_to w (x + (288 + 32 * k))).mode k 8 n kept.most)
    at_fall k few m false s =
        let n : 8 < k = grind (arith, nat_tests, s) in
        let p : 576 ≡ 288 + 32 * k = omega (arith, n, few) in
        subst (λ o. t (suc (x + o)) ≡ t (x + o)) p (counted (last_look at (omega (arith, m, n))))

    -- in a cell
    in_cell : (k i : ℕ) → k ≤ 9 → i < 32 → 288 + 32 * k + i < 258 + look
        → t (suc (x + (288 + 32 * k + i))) ≡ t (x + (288 + 32 * k + i))
    in_cell k zero few l m =
        let z : 288 + 32 * k ≡ 288 + 32 * k + 0 = omega arith in
        subst (λ o. t (suc (x + o)) ≡ t (x + o)) z (at_fall k few (omega (arith, m)) (nat_le k 8) refl)
    in_cell k (suc i) few l m = quiet w wires (x + (288 + 32 * k + suc i)) (by (nat_le 16 (suc i)) refl)
      where
        by : (b : Bool) → nat_le 16 (suc i) ≡ b → NoFall w wires (x + (288 + 32 * k + suc i))
        by true up =
            inl (sent_so (288 + 32 * k + suc i) (omega (arith, m))
            ∙ sent_clock byte k (suc i) (omega (arith, l)) (omega (arith, l, few)) ∙ up)
        by false down =
            let i16 : suc i < 16 = grind (arith, nat_tests, down) in
            let below : nat_le 16 i ≡ false = grind (arith, nat_tests, i16) in
            let p : x + (288 + 32 * k + suc i) ≡ suc (x + (288 + 32 * k + i)) = omega arith in
            inr (
              x + (288 + 32 * k + i),
              p,
              sent_so (288 + 32 * k + i) (omega (arith, m))
                  ∙ sent_clock byte k i (omega (arith, l)) (omega (arith, l, few)) ∙ below,
            )

    each : (o : ℕ) → x + o < y → t (suc (x + o)) ≡ t (x + o)
    each o l = by (nat_le (258 + look) o) refl (nat_lt o 288) refl
      where
        by : (a : Bool) → nat_le (258 + look) o ≡ a → (b : Bool) → nat_lt o 288 ≡ b → t (suc (x + o)) ≡ t (x + o)
        by true r b s = quiet w wires (x + o) (inl (late o (grind (arith, nat_tests, r)) l))
        by false r true s =
            let m : o < 258 + look = grind (arith, nat_tests, r) in
            let n : o < 288 = grind (arith, nat_tests, s) in
            quiet w wires (x + o) (inl (sent_so o (omega (arith, m)) ∙ sent_up byte o n))
        by false r false s =
            let m : o < 258 + look = grind (arith, nat_tests, r) in
            let n : 288 ≤ o = grind (arith, nat_tests, s) in
            let k : ℕ = (o - 288) / 32 in
            let i : ℕ = (o - 288) % 32 in
            let p : 288 + 32 * k + i ≡ o = omega (arith, n) in
            subst (λ o. t (suc (x + o)) ≡ t (x + o)) p
            (in_cell k i (omega (arith, p, m, far)) (omega arith) (omega (arith, p, m)))

    -- in a tick whose frame is cut a host that counts ten falls takes no byte
    pub cut : t y ≡ t x
    cut = adds_none each
