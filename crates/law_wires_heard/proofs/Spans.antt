-- Spans of cycles of a tick: at the wires, and while the controller leaves the clock alone.
use Rattle.std.proofs.Common.{◌≡◌, ◌≤◌, ◌<◌, inl, inr, ℕ, suc, ◌+◌, ◌-◌, ◌*◌, ◌/◌, List, [], Bool, true, false, Some}
use Rattle.std.proofs.Common.{nat_le, refl, ap, sym, ◌∙◌, arith}
use Rattle.std.proofs.lemmas.Bool.Decides.{nat_tests}
use Rattle.board_terms.specs.declared.event.HostEvent.{HostEvent}
use Rattle.board_terms.specs.declared.lines.Lines.{Lines}
use Rattle.ctl_link.specs.Link.{is_busy}
use Rattle.ctl_link.specs.Pulls.{pulled}
use Rattle.ctl_wire.proofs.Pulls.{pulled_is_low}
use Rattle.law_fw_link.proofs.Board.{at_wires}
use Rattle.law_fw_link.proofs.TickLatch.{lights_stay}
use Rattle.law_fw_link.proofs.Wired.{IsReleased, ticks_alike}
use Rattle.law_fw_link.specs.Latch.{Frame}
use Rattle.law_fw_logic.proofs.Blocks.{ticks_add}
use Rattle.joint_run.specs.Joint.{Beside, joint_cycle, latch_of, lights_of}
use Rattle.joint_run.specs.Run.{after_cycles}
use Rattle.law_wires_agree.specs.Cycles.{board_cycles}
use Rattle.law_wires_heard.proofs.Clock.{Fits}
use Rattle.law_wires_heard.proofs.Pulls.{link_of, lets, run_on, keeps, lets_or_pulls}
use Rattle.law_wires_heard.proofs.Ticks.{latch, beside, beside_next}

-- the lights that a cycle shows
shows : (events : List HostEvent) (p2 now : ℕ) (s : Beside) → (joint_cycle events p2 now s).shown ≡ lights_of p2
unfolding joint_cycle
shows events p2 now s = refl

module _ (events : List HostEvent) (x : ℕ) (start : Beside) (old v : ℕ) (was : IsReleased old) (is : IsReleased v)
    (frame : Frame) (fits : Fits old v was is frame) (idle : is_busy (link_of start) ≡ false) where
  abbrev L : ℕ → ℕ
  L = latch events x start old v was is frame fits idle

  abbrev B : ℕ → Beside
  B = beside events x start old v was is frame fits idle

  abbrev f : ℕ → Beside → Beside
  f o = joint_cycle events (L o) (x + o)

  -- what the keyboard drives, by the cycle
  abbrev pub lines : ℕ → Lines
  lines c = latch_of (L (c - x))

  further : (a n : ℕ) → B (a + n) ≡ after_cycles n a f (B a)
  further a n = let z : 0 + a ≡ a = omega arith in ticks_add a n 0 f start ∙ ap (λ k. after_cycles n k f (B a)) z

  -- from the first edge on, at the wires
  pub at_edge : (n : ℕ) → (B (288 + n)).pc ≡ board_cycles events lines n (288 + x) (B 288).pc
  at_edge n =
      let shown : (B 288).shown ≡ lights_of v =
      ap (λ (s : Beside). s.shown) (beside_next events x start old v was is frame fits idle 287)
      ∙ shows events (L 287) (x + 287) (B 287) ∙ lights_stay old v frame is.byte 287 (omega arith) in
      let z : x + 288 ≡ 288 + x = omega arith in
      ap (λ (s : Beside). s.pc)
      (further 288 n
      ∙ at_wires [] events x L lines n 288 (B 288)
      (λ o a b. lights_stay old v frame is.byte o (omega (arith, a)) ∙ sym shown)
      (λ o a b. let y : x + o - x ≡ o = omega arith in ap (λ k. latch_of (L k)) y))
      ∙ ap (λ c. board_cycles events lines n c (B 288).pc) z

  -- by the cycle
  abbrev by_cycle : ℕ → ℕ
  by_cycle c = L (c - x)

  -- what is beside the processor at an offset goes on to a later one by the tick's latch
  pub onward : (a n : ℕ) → B (a + n) ≡ run_on events by_cycle n (x + a) (B a)
  onward a n =
      further a n
      ∙ ticks_alike n a (x + a) f (λ c. joint_cycle events (by_cycle c) c) (B a)
      (λ i s l.
      let y : x + a + i - x ≡ a + i = omega arith in
      let z : x + (a + i) ≡ x + a + i = omega arith in
      ap (λ k. joint_cycle events (L k) (x + (a + i)) s) (sym y) ∙ ap (λ c. joint_cycle events (L (x + a + i - x)) c s) z)

  -- a pull stays
  pub pull_stays : (a n h : ℕ) → pulled (link_of (B a)) ≡ Some h → x + a + n ≤ h + 64 → pulled (link_of (B (a + n))) ≡ Some h
  pull_stays a n h e l = ap (λ s. pulled (link_of s)) (onward a n) ∙ keeps events by_cycle n (x + a) (B a) h e (omega (arith, l))

  -- a pull of the clock goes on up to its 64th cycle
  pub low_stays : (a n h : ℕ) → pulled (link_of (B a)) ≡ Some h → x + a + n ≤ h + 64 → lets (B (a + n)) ≡ false
  low_stays a n h e l = pulled_is_low (link_of (B (a + n))) h (pull_stays a n h e l)

  -- between two cycles that are at most 64 apart, and in which the controller leaves the clock alone, it does so
  pub between : (a n m : ℕ) → n + m ≤ 64 → lets (B a) ≡ true → lets (B (a + (n + m))) ≡ true → lets (B (a + n)) ≡ true
  between a n m l first last =
      elim (lets_or_pulls events by_cycle n (x + a) (B a) (omega (arith, l)) first) [
        | inl still ↦ ap lets (onward a n) ∙ still
        | inr p ↦
            let from : x + a ≤ p.0 = p.1 in
            let there : pulled (link_of (B (a + n))) ≡ Some p.0 = ap (λ s. pulled (link_of s)) (onward a n) ∙ p.2 in
            let z : a + n + m ≡ a + (n + m) = omega arith in
            let low : lets (B (a + (n + m))) ≡ false =
            ap (λ k. lets (B k)) (sym z) ∙ low_stays (a + n) m p.0 there (omega (arith, from, l)) in
            absurd (let e : true ≡ false = sym last ∙ low in cc)
      ]

  -- if the controller leaves the clock alone at two offsets at most 64 cycles apart, it does so between them
  pub between_at : (a o b : ℕ) → a ≤ o → o ≤ b → b ≤ a + 64 → lets (B a) ≡ true → lets (B b) ≡ true → lets (B o) ≡ true
  between_at a o b l u far first last =
      let y : a + (o - a) ≡ o = omega (arith, l) in
      let z : a + ((o - a) + (b - o)) ≡ b = omega (arith, l, u) in
      ap (λ k. lets (B k)) (sym y)
      ∙ between a (o - a) (b - o) (omega (arith, l, u, far)) first (ap (λ k. lets (B k)) z ∙ last)

  -- so it leaves the clock alone all through a frame, where it does so at its first edge, at the look of each cell, and at
  -- its last edge
  pub open_frame : lets (B 288) ≡ true → ((k : ℕ) → k < 10 → lets (B (306 + 32 * k)) ≡ true) → lets (B 608) ≡ true
      → (o : ℕ) → 288 ≤ o → o ≤ 608 → lets (B o) ≡ true
  open_frame first looks last o l u = by (nat_le o 306) refl (nat_le o 594) refl
    where
      by : (p : Bool) → nat_le o 306 ≡ p → (q : Bool) → nat_le o 594 ≡ q → lets (B o) ≡ true
      by true e q d = between_at 288 o 306 l (grind (arith, nat_tests, e)) (omega arith) first (looks 0 (omega arith))
      by false e true d =
          let m : 306 < o = grind (arith, nat_tests, e) in
          let k : o ≤ 594 = grind (arith, nat_tests, d) in
          let i : ℕ = (o - 307) / 32 in
          let few : suc i < 10 = omega (arith, m, k) in
          between_at (306 + 32 * i) o (306 + 32 * suc i) (omega (arith, m)) (omega (arith, m)) (omega arith) (looks i (omega (arith, few)))
          (looks (suc i) few)
      by false e false d =
          let m : 594 < o = grind (arith, nat_tests, d) in
          between_at 594 o 608 (omega (arith, m)) u (omega arith) (looks 9 (omega arith)) last
