-- As the controller lets the clock go, the keyboard pulls neither wire.
use Rattle.std.proofs.Common.{◌≡◌, ◌≤◌, ◌<◌, ◌⊎◌, inl, inr, ℕ, zero, suc, ◌+◌, ◌-◌, ◌*◌, ◌/◌, List, Bool, true, false, nat_lt, nat_le}
use Rattle.std.proofs.Common.{if◌then◌else◌, refl, ap, sym, ◌∙◌, arith}
use Rattle.std.proofs.lemmas.Bool.Decides.{nat_tests}
use Rattle.law_agreement.specs.Wires.{GoesWith, IsCutBy}
use Rattle.bits.specs.Bits.{bit}
use Rattle.board_terms.specs.declared.event.HostEvent.{HostEvent}
use Rattle.ctl_link.specs.Link.{is_busy}
use Rattle.law_fw_link.proofs.TickLatch.{afterwards, before_data, before_lights, within}
use Rattle.law_fw_link.proofs.Wired.{IsReleased}
use Rattle.law_fw_link.proofs.Wires.{look_within}
use Rattle.law_fw_link.specs.Latch.{Frame, NoFrame, SentFrame, CutFrame, ReceivedFrame, IsLook, frame_cycles, frame_latch, received_latch, sent_latch, tick_latch}
use Rattle.joint_run.specs.Joint.{Beside}
use Rattle.law_wires_heard.proofs.Clock.{Fits, cells}
use Rattle.law_wires_heard.proofs.HeardAtLastCell.{IsWhole}
use Rattle.law_wires_heard.proofs.Pulls.{link_of, lets}
use Rattle.law_wires_heard.proofs.Spans.{between_at, low_stays}
use Rattle.law_wires_heard.proofs.Ticks.{beside}

-- a latch that pulls neither wire
abbrev pub IsAlone : ℕ → Type 0
IsAlone p2 = (bit 0 p2 ≡ true) × (bit 1 p2 ≡ true)

look_least : (look : ℕ) → IsLook look → 8 ≤ look
look_least look (inl e) = omega (arith, e)
look_least look (inr (inl e)) = omega (arith, e)
look_least look (inr (inr (k, few, inl e))) = omega (arith, e)
look_least look (inr (inr (k, few, inr (e, more)))) = omega (arith, e)

is_alone : (v p2 : ℕ) → IsReleased v → p2 ≡ v → IsAlone p2
is_alone v p2 is same = (ap (bit 0) same ∙ is.clock, ap (bit 1) same ∙ is.data_wire)

module _ (events : List HostEvent) (x : ℕ) (start : Beside) (old v : ℕ) (was : IsReleased old) (is : IsReleased v)
    (idle : is_busy (link_of start) ≡ false) where
  module _ (frame : Frame) (fits : Fits old v was is frame) where
    abbrev B : ℕ → Beside
    B = beside events x start old v was is frame fits idle

    abbrev L : ℕ → ℕ
    L m = tick_latch old v frame m

    -- the controller pulls the clock, and lets it go within two cycles, after which a state is
    pub record LetsGo (o m : ℕ) : Type 0 where
      pub near : m ≤ suc o
      pub not_before : o ≤ m
      pub low : lets (B o) ≡ false
      pub high : lets (B (suc m)) ≡ true
      pub between : (i : ℕ) → i < cells frame → suc m ≡ 289 + 32 * i → ⊥

    early : (m : ℕ) → m < 260 → IsAlone (L m)
    early m few = by (nat_lt m 232) refl
      where
        by : (b : Bool) → nat_lt m 232 ≡ b → IsAlone (L m)
        by true e = is_alone old (L m) was (before_lights old v frame m (grind (arith, nat_tests, e)))
        by false e =
            let l : 232 ≤ m = grind (arith, nat_tests, e) in
            let z : m ≡ 232 + (m - 232) = omega (arith, l) in
            is_alone v (L m) is (ap L z ∙ before_data old v frame (m - 232) (omega (arith, l, few)))

    in_frame : (m i : ℕ) → m ≡ 260 + i → i < frame_cycles frame → frame_latch frame v i ≡ v → IsAlone (L m)
    in_frame m i at few same = is_alone v (L m) is (ap L at ∙ within old v frame i few ∙ same)

    after_frame : (m : ℕ) → 260 + frame_cycles frame ≤ m → IsAlone (L m)
    after_frame m far =
        let z : m ≡ 260 + frame_cycles frame + (m - (260 + frame_cycles frame)) = omega (arith, far) in
        is_alone v (L m) is (ap L z ∙ afterwards old v frame (m - (260 + frame_cycles frame)))

    -- it doesn't, if it leaves the clock alone at most 64 cycles before
    not_after : (a o m : ℕ) → LetsGo o m → a ≤ o → suc m ≤ a + 64 → lets (B a) ≡ true → ⊥
    not_after a o m h l u alone =
        let not_before : o ≤ m = h.not_before in
        let high = between_at events x start old v was is frame fits idle a o (suc m) l (omega (arith, not_before)) u alone h.high in
        let z : true ≡ false = sym high ∙ h.low in
        cc

    -- nor in a frame of eleven cells, from its first edge on
    pub not_in_cells : IsWhole events x start old v was is idle frame fits → (o m : ℕ) → LetsGo o m → 288 ≤ o → m < 650 → ⊥
    not_in_cells whole o m h from to = by (nat_le o 608) refl
      where
        by : (b : Bool) → nat_le o 608 ≡ b → ⊥
        by true e =
            let high = whole.opens o from (grind (arith, nat_tests, e)) in
            let z : true ≡ false = sym high ∙ h.low in
            cc
        by false e =
            let l : 608 < o = grind (arith, nat_tests, e) in
            let not_before : o ≤ m = h.not_before in
            let here = whole.steady.1 o l (omega (arith, not_before, to)) in
            let there = whole.steady.1 (suc m) (omega (arith, not_before, l)) to in
            let z : true ≡ false = sym h.high ∙ there ∙ sym here ∙ h.low in
            cc

  -- a frame that is sent
  sent_early : (byte i : ℕ) → i < 10 → sent_latch v byte i ≡ v
  sent_early byte i few = let e : nat_lt i 10 ≡ true = grind (arith, nat_tests, few) in rw e refl

  sent_alone : (byte : ℕ) → GoesWith (λ o. (B (SentFrame byte) tt o).pc) (SentFrame byte)
      → IsWhole events x start old v was is idle (SentFrame byte) tt → (o m : ℕ) → LetsGo (SentFrame byte) tt o m
      → IsAlone (L (SentFrame byte) tt m)
  sent_alone byte goes whole o m h = by (nat_lt m 270) refl (nat_lt m 260) refl (nat_lt m 628) refl
    where
      near : m ≤ suc o
      near = h.near

      by : (p : Bool) → nat_lt m 270 ≡ p → (q : Bool) → nat_lt m 260 ≡ q → (r : Bool) → nat_lt m 628 ≡ r
          → IsAlone (L (SentFrame byte) tt m)
      by p e true d r f = early (SentFrame byte) tt m (grind (arith, nat_tests, d))
      by true e false d r f =
          let few : m < 270 = grind (arith, nat_tests, e) in
          let from : 260 ≤ m = grind (arith, nat_tests, d) in
          in_frame (SentFrame byte) tt m (m - 260) (omega (arith, from)) (omega (arith, few))
          (sent_early byte (m - 260) (omega (arith, few, from)))
      by false e false d false f = after_frame (SentFrame byte) tt m (grind (arith, nat_tests, f))
      by false e false d true f =
          let from : 270 ≤ m = grind (arith, nat_tests, e) in
          let to : m < 628 = grind (arith, nat_tests, f) in
          absurd (by_edge from to (nat_lt o 288) refl)
        where
          by_edge : 270 ≤ m → m < 628 → (b : Bool) → nat_lt o 288 ≡ b → ⊥
          by_edge from to true e =
              let l : o < 288 = grind (arith, nat_tests, e) in
              not_after (SentFrame byte) tt 268 o m h (omega (arith, near, from)) (omega (arith, near, l)) (goes.3 8 (inl refl))
          by_edge from to false e =
              not_in_cells (SentFrame byte) tt whole o m h (grind (arith, nat_tests, e)) (omega (arith, to))

  -- one that is received
  received_early : (i : ℕ) → i < 28 → received_latch v i ≡ v
  received_early i few = let e : nat_lt i 28 ≡ true = grind (arith, nat_tests, few) in rw e refl

  received_alone : IsWhole events x start old v was is idle ReceivedFrame tt → (o m : ℕ) → LetsGo ReceivedFrame tt o m
      → IsAlone (L ReceivedFrame tt m)
  received_alone whole o m h = by (nat_lt m 288) refl (nat_lt m 260) refl (nat_lt m 626) refl
    where
      near : m ≤ suc o
      near = h.near

      by : (p : Bool) → nat_lt m 288 ≡ p → (q : Bool) → nat_lt m 260 ≡ q → (r : Bool) → nat_lt m 626 ≡ r
          → IsAlone (L ReceivedFrame tt m)
      by p e true d r f = early ReceivedFrame tt m (grind (arith, nat_tests, d))
      by true e false d r f =
          let few : m < 288 = grind (arith, nat_tests, e) in
          let from : 260 ≤ m = grind (arith, nat_tests, d) in
          in_frame ReceivedFrame tt m (m - 260) (omega (arith, from)) (omega (arith, few))
          (received_early (m - 260) (omega (arith, few, from)))
      by false e false d false f = after_frame ReceivedFrame tt m (grind (arith, nat_tests, f))
      by false e false d true f =
          let from : 288 ≤ m = grind (arith, nat_tests, e) in
          let to : m < 626 = grind (arith, nat_tests, f) in
          absurd (by_edge from to (nat_lt o 288) refl)
        where
          by_edge : 288 ≤ m → m < 626 → (b : Bool) → nat_lt o 288 ≡ b → ⊥
          by_edge from to true e =
              let l : o < 288 = grind (arith, nat_tests, e) in
              h.between 0 (omega arith) (omega (arith, near, from, l))
          by_edge from to false e = not_in_cells ReceivedFrame tt whole o m h (grind (arith, nat_tests, e)) (omega (arith, to))

  -- one that is cut: the pull that cuts it begins long enough before its look
  module _ (byte look : ℕ) (at : IsLook look) (cut : IsCutBy (λ o. link_of (B (CutFrame byte look) at o)) x (CutFrame byte look)) where
    far : x + 236 + look ≤ cut.0
    far = by at
      where
        at_look : (earlier : ℕ) → IsLook earlier → earlier < look → look ≤ earlier + 24 → x + 236 + look ≤ cut.0
        at_look earlier is before near =
            let since : x + (260 + earlier) ≤ cut.0 = cut.3 earlier is before in
            omega (arith, since, near)

        by : IsLook look → x + 236 + look ≤ cut.0
        by (inl e) = let first : x + 256 ≤ cut.0 = cut.2 in omega (arith, first, e)
        by (inr (inl e)) = at_look 8 (inl refl) (omega (arith, e)) (omega (arith, e))
        by (inr (inr (zero, few, inl e))) = at_look 26 (inr (inl refl)) (omega (arith, e)) (omega (arith, e))
        by (inr (inr (suc k, few, inl e))) =
            at_look (56 + 32 * k) (inr (inr (k, omega (arith, few), inr (refl, omega (arith, few))))) (omega (arith, e))
            (omega (arith, e))
        by (inr (inr (k, few, inr (e, more)))) =
            at_look (46 + 32 * k) (inr (inr (k, few, inl refl))) (omega (arith, e)) (omega (arith, e))

    -- from its look on the controller pulls the clock
    pub cut_low : (o : ℕ) → 260 + look ≤ o → o ≤ 300 + look → lets (B (CutFrame byte look) at o) ≡ false
    cut_low o from to =
        let since : x + 236 + look ≤ cut.0 = far in
        let z : 260 + look + (o - (260 + look)) ≡ o = omega (arith, from) in
        ap (λ k. lets (B (CutFrame byte look) at k)) (sym z)
        ∙ low_stays events x start old v was is (CutFrame byte look) at idle (260 + look) (o - (260 + look)) cut.0 cut.1
        (omega (arith, since, from, to))

    not_in_cut : (o m : ℕ) → LetsGo (CutFrame byte look) at o m → 270 ≤ m → m < 262 + look → ⊥
    not_in_cut o m h from to = by (nat_le (260 + look) (suc m)) refl (nat_le (suc m) 332) refl
      where
        near : m ≤ suc o
        near = h.near

        not_before : o ≤ m
        not_before = h.not_before

        below : look ≤ 334
        below = look_within look at

        by : (p : Bool) → nat_le (260 + look) (suc m) ≡ p → (q : Bool) → nat_le (suc m) 332 ≡ q → ⊥
        by true e q d =
            let l : 260 + look ≤ suc m = grind (arith, nat_tests, e) in
            let low = cut_low (suc m) l (omega (arith, to)) in
            let y : true ≡ false = sym h.high ∙ low in
            cc
        by false e true d =
            let l : suc m < 260 + look = grind (arith, nat_tests, e) in
            let k : suc m ≤ 332 = grind (arith, nat_tests, d) in
            not_after (CutFrame byte look) at 268 o m h (omega (arith, near, from)) (omega (arith, k))
            (cut.4 8 (inl refl) (omega (arith, l, from)))
        by false e false d =
            let l : suc m < 260 + look = grind (arith, nat_tests, e) in
            let k : 332 < suc m = grind (arith, nat_tests, d) in
            let cell : ℕ = (o - 306) / 32 in
            let few : cell < 10 = omega (arith, near, not_before, l, below) in
            let early_look : 46 + 32 * cell < look = omega (arith, near, not_before, l, k) in
            not_after (CutFrame byte look) at (260 + (46 + 32 * cell)) o m h (omega (arith, near, k)) (omega (arith, near, not_before, k))
            (cut.4 (46 + 32 * cell) (inr (inr (cell, few, inl refl))) early_look)

    cut_early : (i : ℕ) → (i < 10) ⊎ (look + 2 ≤ i) → frame_latch (CutFrame byte look) v i ≡ v
    cut_early i (inl few) = by (nat_lt i (look + 2))
      where
        by : (b : Bool) → (if b then sent_latch v byte i else v) ≡ v
        by true = sent_early byte i few
        by false = refl
    cut_early i (inr far) = let e : nat_lt i (look + 2) ≡ false = grind (arith, nat_tests, far) in rw e refl

    cut_alone : (o m : ℕ) → LetsGo (CutFrame byte look) at o m → IsAlone (L (CutFrame byte look) at m)
    cut_alone o m h = by (nat_lt m 260) refl (nat_lt m 270) refl (nat_lt m (262 + look)) refl (nat_lt m (266 + look)) refl
      where
        least : 8 ≤ look
        least = look_least look at

        by : (p : Bool) → nat_lt m 260 ≡ p → (q : Bool) → nat_lt m 270 ≡ q → (r : Bool) → nat_lt m (262 + look) ≡ r
            → (s : Bool) → nat_lt m (266 + look) ≡ s → IsAlone (L (CutFrame byte look) at m)
        by true e q d r f s g = early (CutFrame byte look) at m (grind (arith, nat_tests, e))
        by false e true d r f s g =
            let from : 260 ≤ m = grind (arith, nat_tests, e) in
            let few : m < 270 = grind (arith, nat_tests, d) in
            in_frame (CutFrame byte look) at m (m - 260) (omega (arith, from)) (omega (arith, few, least))
            (cut_early (m - 260) (inl (omega (arith, few, from))))
        by false e false d true f s g =
            absurd (not_in_cut o m h (grind (arith, nat_tests, d)) (grind (arith, nat_tests, f)))
        by false e false d false f true g =
            let from : 262 + look ≤ m = grind (arith, nat_tests, f) in
            let to : m < 266 + look = grind (arith, nat_tests, g) in
            in_frame (CutFrame byte look) at m (m - 260) (omega (arith, from)) (omega (arith, to, from))
            (cut_early (m - 260) (inr (omega (arith, from))))
        by false e false d false f false g =
            let from : 266 + look ≤ m = grind (arith, nat_tests, g) in
            after_frame (CutFrame byte look) at m (omega (arith, from))

  -- so it is in every frame
  pub alone_as_let_go : (frame : Frame) (fits : Fits old v was is frame) → GoesWith (λ o. (B frame fits o).pc) frame
      → IsCutBy (λ o. link_of (B frame fits o)) x frame → (cells frame ≡ 11 → IsWhole events x start old v was is idle frame fits)
      → (o m : ℕ) → LetsGo frame fits o m → IsAlone (L frame fits m)
  alone_as_let_go NoFrame fits goes cut whole o m h = by (nat_lt m 260) refl
    where
      by : (b : Bool) → nat_lt m 260 ≡ b → IsAlone (L NoFrame fits m)
      by true e = early NoFrame fits m (grind (arith, nat_tests, e))
      by false e = after_frame NoFrame fits m (grind (arith, nat_tests, e))
  alone_as_let_go (SentFrame byte) fits goes cut whole o m h = sent_alone byte goes (whole refl) o m h
  alone_as_let_go (CutFrame byte look) fits goes cut whole o m h = cut_alone byte look fits cut o m h
  alone_as_let_go ReceivedFrame fits goes cut whole o m h = received_alone (whole refl) o m h
