-- Where no frame of eleven cells comes to its last, no sample completes a transfer: the falls before it aren't spaced.
use Rattle.std.proofs.Common.{◌≡◌, ◌≤◌, ◌<◌, ℕ, suc, zero, ◌+◌, ◌-◌, ◌*◌, Bool, true, false, ◌&&◌, ◌==◌}
use Rattle.std.proofs.Common.{Some, None, nat_lt, refl, ap, sym, ◌∙◌, subst, arith}
use Rattle.std.proofs.lemmas.Bool.Decides.{nat_tests}
use Rattle.std.specs.declared.option.Option.{Option}
use Rattle.bits.proofs.Every.{same_of}
use Rattle.bits.specs.Bits.{bit}
use Rattle.ctl_link.specs.Link.{is_busy}
use Rattle.run_probes.specs.Transfers.{completed}
use Rattle.board_terms.specs.declared.transfer.Transfer.{Transfer}
use Rattle.law_fw_link.proofs.Wired.{IsReleased}
use Rattle.law_fw_link.specs.Latch.{Frame}
use Rattle.joint_feed.specs.Stories.{Story, state_at}
use Rattle.joint_run.specs.Joint.{Beside, latch_of}
use Rattle.joint_run.specs.Run.{World}
use Rattle.law_wires_heard.proofs.Clock.{cells, clock_in, low_is, Fits}
use Rattle.law_wires_heard.proofs.Ears.{IsFall, last_falls, fall_before}
use Rattle.law_wires_heard.proofs.Pulls.{link_of, lets, both_high, comes_from, same_state, no_fall, Falls}
use Rattle.law_wires_heard.proofs.Stepping.{first_latch, goes_in, fall_by_latch, IsLast}
use Rattle.law_wires_heard.proofs.Ticks.{latch, beside, drives, eleven_at_most, IsIn, Goes}
use Rattle.law_wires_heard.specs.Hearing.{heard_to, sample_in}

-- a fall that another follows within 62 cycles is one by the latch
module _ (s : Story) (k c : ℕ) (i : IsFall s k c) (j : ℕ) (one next : World Beside) (f : Falls s j one next)
    (afterwards : c < next.cycle) (soon : next.cycle ≤ c + 62) where
  -- a fall that another one follows within 62 cycles is one of the keyboard's
  pub by_latch : (latch_of i.next.cpu.p2).clk ≡ false
  by_latch = by (latch_of i.next.cpu.p2).clk refl
    where
      by : (b : Bool) → (latch_of i.next.cpu.p2).clk ≡ b → (latch_of i.next.cpu.p2).clk ≡ false
      by true e =
          let at : i.next.cycle ≡ c = i.cycle in
          absurd (no_fall s i.step j i.one i.next one next i.falls e f (omega (arith, at, afterwards)) (omega (arith, at, soon)))
      by false e = e

module _ (s : Story) (k0 k1 x : ℕ) (start : Beside) (old v : ℕ) (was : IsReleased old) (is : IsReleased v)
    (frame : Frame) (fits : Fits old v was is frame) (idle : is_busy (link_of start) ≡ false) where
  abbrev n : ℕ
  n = cells frame

  abbrev B : ℕ → Beside
  B = beside s.events x start old v was is frame fits idle

  abbrev In : World Beside → ℕ → Type 0
  In = IsIn s.events x start old v was is frame fits idle

  abbrev On : World Beside → World Beside → Type 0
  On = Goes s.events x start old v was is frame fits idle

  -- the steps of the tick, from its start on; and the latch of port 2 left the clock alone before
  pub record IsTick : Type 0 where
    pub w : World Beside
    pub at : state_at s k0 ≡ Some w
    pub begins : In w 0
    pub goes : (j : ℕ) (one next : World Beside) → k0 ≤ j → j < k1 → state_at s j ≡ Some one → state_at s (suc j) ≡ Some next → On one next
    pub high : (j : ℕ) (u : World Beside) → j ≤ k0 → state_at s j ≡ Some u → x < u.cycle + 330 → bit 0 u.cpu.p2 ≡ true
    pub broken : n ≡ 10 → (o : ℕ) → 594 ≤ o → o ≤ 620 → lets (B o) ≡ false
    pub steady : n ≡ 11 → (b : Bool) × ((o : ℕ) → 609 ≤ o → o ≤ 650 → lets (B o) ≡ b)

  module _ (t : IsTick) where
    -- the state at the tick's first step is the tick's start
    pub same_start : (u : World Beside) → state_at s k0 ≡ Some u → In u 0
    same_start u at = subst (λ w. In w 0) (same_state s k0 t.w u t.at at) t.begins

    -- each state of the tick
    placed_by : (m : ℕ) (u : World Beside) → m + k0 ≤ k1 → state_at s (m + k0) ≡ Some u → (o : ℕ) × In u o
    placed_by zero u l at =
        let z : 0 + k0 ≡ k0 = omega arith in
        (0, same_start u (ap (λ j. state_at s j) (sym z) ∙ at))
    placed_by (suc m) u l at =
        let z : suc m + k0 ≡ suc (m + k0) = omega arith in
        let here : state_at s (suc (m + k0)) ≡ Some u = ap (λ j. state_at s j) (sym z) ∙ at in
        let c = comes_from s (m + k0) u here in
        let p = placed_by m c.before (omega (arith, l)) c.at in
        let g = t.goes (m + k0) c.before u (omega arith) (omega (arith, l)) c.at here in
        (p.0 + g.step.count, goes_in s.events x start old v was is frame fits idle c.before u p.0 p.1 g)

    -- each state of the tick is at an offset from the tick's start
    pub placed : (j : ℕ) (u : World Beside) → k0 ≤ j → j ≤ k1 → state_at s j ≡ Some u → (o : ℕ) × In u o
    placed j u a b at =
        let z : (j - k0) + k0 ≡ j = omega (arith, a) in
        placed_by (j - k0) u (omega (arith, a, b)) (ap (λ i. state_at s i) z ∙ at)

    -- a fall by the latch is one at a cell's beginning
    record AtCell (c : ℕ) : Type 0 where
      pub cell : ℕ
      pub few : cell < n
      pub from : x + 288 + 32 * cell < c
      pub to : c ≤ x + 290 + 32 * cell

    at_cell : (k c : ℕ) → k ≤ k1 → (i : IsFall s k c) → (latch_of i.next.cpu.p2).clk ≡ false → x < c + 330 → AtCell c
    at_cell k c l i low near = by (nat_lt i.step k0) refl
      where
        by : (b : Bool) → nat_lt i.step k0 ≡ b → AtCell c
        by true e =
            let m : i.step < k0 = grind (arith, nat_tests, e) in
            let at : i.next.cycle ≡ c = i.cycle in
            let up : bit 0 i.next.cpu.p2 ≡ true = t.high (suc i.step) i.next (omega (arith, m)) i.falls.to (omega (arith, at, near)) in
            absurd (let z : true ≡ false = sym up ∙ low in cc)
        by false e =
            let m : k0 ≤ i.step = grind (arith, nat_tests, e) in
            let early : i.step < k = i.early in
            let p = placed i.step i.one m (omega (arith, early, l)) i.falls.from in
            let g = t.goes i.step i.one i.next m (omega (arith, early, l)) i.falls.from i.falls.to in
            let up = both_high (latch_of i.one.cpu.p2).clk (lets i.one.board) i.falls.high in
            let edge = fall_by_latch s.events x start old v was is frame fits idle i.one i.next p.0 p.1 g up.0 low in
            let o_is : p.0 ≡ 288 + 32 * edge.cell = edge.at in
            let a : i.one.cycle ≡ x + p.0 = p.1.cycle in
            let b : i.next.cycle ≡ i.one.cycle + g.step.count = g.step.cycle in
            let one_at_least : 1 ≤ g.step.count = g.step.least in
            let two_at_most : g.step.count ≤ 2 = g.step.most in
            let at : i.next.cycle ≡ c = i.cycle in
            record {
              cell = edge.cell;
              few = edge.few;
              from = omega (arith, o_is, a, b, one_at_least, at);
              to = omega (arith, o_is, a, b, two_at_most, at);
            }

    module _ (k : ℕ) (one next : World Beside) (o : ℕ) (a : k0 ≤ k) (b : k < k1) (from : state_at s k ≡ Some one)
        (to : state_at s (suc k) ≡ Some next) (i : In one o) (g : On one next)
        (not_last : IsLast s.events x start old v was is frame fits idle o → ⊥) where
      latch_at : (m : ℕ) → bit 0 (latch s.events x start old v was is frame fits idle m) ≡ clock_in n m
      latch_at = drives s.events x start old v was is frame fits idle

      abbrev c : ℕ
      c = g.step.count

      -- where the step is, and that the clock falls in it
      module _ (f : Falls s k one next) where
        up : ((latch_of one.cpu.p2).clk ≡ true) × (lets one.board ≡ true)
        up = both_high (latch_of one.cpu.p2).clk (lets one.board) f.high

        -- at the last cell's first cycle: only a state there falls, and that is the last
        at_last : n ≡ 11 → 609 ≤ o + c → o + c ≤ 610 → ⊥
        at_last all l u =
            let most : c ≤ 2 = g.step.most in
            let least : 1 ≤ c = g.step.least in
            let q = goes_in s.events x start old v was is frame fits idle one next o i g in
            by most least (λ at. q.between 10 (omega (arith, all)) at) (λ at. i.between 10 (omega (arith, all)) at)
            (λ at. not_last (at, all)) (nat_lt o 608) refl (o == 608) refl
          where
            by : c ≤ 2 → 1 ≤ c → (o + c ≡ 609 → ⊥) → (o ≡ 609 → ⊥) → (o ≡ 608 → ⊥) → (p : Bool) → nat_lt o 608 ≡ p
                → (q : Bool) → (o == 608) ≡ q → ⊥
            by most least afterwards here last true e q d =
                let m : o < 608 = grind (arith, nat_tests, e) in
                afterwards (omega (arith, m, l, most))
            by most least afterwards here last false e true d = last (grind (arith, nat_tests, d))
            by most least afterwards here last false e false d = here (grind (arith, nat_tests, e, d, u, least))

        -- after the frame the controller pulls the clock all along, or leaves it alone
        at_end : n ≡ 11 → 641 ≤ o + c → o + c ≤ 642 → ⊥
        at_end all l u =
            let most : c ≤ 2 = g.step.most in
            let least : 1 ≤ c = g.step.least in
            let stays = t.steady all in
            let q = goes_in s.events x start old v was is frame fits idle one next o i g in
            let here : lets one.board ≡ stays.0 = ap lets i.board ∙ stays.1 o (omega (arith, l, most)) (omega (arith, u, least)) in
            let there : lets next.board ≡ stays.0 = ap lets q.board ∙ stays.1 (o + c) (omega (arith, l)) (omega (arith, u)) in
            let alone : lets next.board ≡ true = there ∙ sym here ∙ up.1 in
            let latch_is : (latch_of next.cpu.p2).clk ≡ clock_in n o =
            ap (bit 0) (first_latch s.events x start old v was is frame fits idle one next o i g) ∙ latch_at o in
            by (omega (arith, l, most)) (omega (arith, u, least)) (clock_in n o) refl
            (ap (λ b. b && lets next.board) (sym latch_is) ∙ f.low) alone
          where
            by : 639 ≤ o → o ≤ 641 → (q : Bool) → clock_in n o ≡ q → (clock_in n o && lets next.board) ≡ false → lets next.board ≡ true → ⊥
            by a b true e low alone =
                let z : (true && true) ≡ false = ap (λ k. k && true) (sym e) ∙ ap (λ k. clock_in n o && k) (sym alone) ∙ low in
                cc
            by a b false e low alone =
                let d = low_is n o e in
                let m : d.cell < n = d.few in
                let h : 288 + 32 * d.cell ≤ o = d.from in
                let k : o < 304 + 32 * d.cell = d.to in
                omega (arith, all, m, h, k, a, b)

        -- in a frame of ten cells the controller pulls it
        at_broken : n ≡ 10 → 609 ≤ o + c → o + c ≤ 610 → ⊥
        at_broken all l u =
            let most : c ≤ 2 = g.step.most in
            let least : 1 ≤ c = g.step.least in
            let down : lets one.board ≡ false = ap lets i.board ∙ t.broken all o (omega (arith, l, most)) (omega (arith, u, least)) in
            let z : true ≡ false = sym up.1 ∙ down in
            cc

        by_cells : (i10 i1 : ℕ) → i1 < n → 608 + 32 * i10 < o + c → o + c ≤ 610 + 32 * i10 → 320 + 32 * i1 < o + c
            → o + c ≤ 322 + 32 * i1 → n ≤ 11 → ⊥
        by_cells i10 i1 few a b d e most = pick (i10 == 0) refl (n == 11) refl
          where
            pick : (p : Bool) → (i10 == 0) ≡ p → (q : Bool) → (n == 11) ≡ q → ⊥
            pick true z true w =
                let zero_is : i10 ≡ 0 = same_of i10 0 z in
                at_last (same_of n 11 w) (omega (arith, a, zero_is)) (omega (arith, b, zero_is))
            pick true z false w =
                let zero_is : i10 ≡ 0 = same_of i10 0 z in
                let at_least : 10 ≤ n = omega (arith, a, d, e, b, few, zero_is) in
                at_broken (grind (arith, nat_tests, w, at_least, most)) (omega (arith, a, zero_is)) (omega (arith, b, zero_is))
            pick false z q w =
                let some : 1 ≤ i10 = grind (arith, nat_tests, z) in
                let one_is : i10 ≡ 1 = omega (arith, some, a, b, d, e, few, most) in
                at_end (omega (arith, one_is, a, b, d, e, few, most)) (omega (arith, a, one_is)) (omega (arith, b, one_is))

      completes_none : (r : Transfer) → completed (sample_in next) (heard_to s k) ≡ Some r → ⊥
      completes_none r is_some =
          let f = last_falls s k one next from to r is_some in
          let f10 = fall_before s k one next from to r is_some 10 (omega arith) (omega arith) in
          let f9 = fall_before s k one next from to r is_some 9 (omega arith) (omega arith) in
          let f1 = fall_before s k one next from to r is_some 1 (omega arith) (omega arith) in
          let e10 : f10.0 + 32 * 10 ≡ next.cycle = f10.1 in
          let e9 : f9.0 + 32 * 9 ≡ next.cycle = f9.1 in
          let e1 : f1.0 + 32 * 1 ≡ next.cycle = f1.1 in
          let at9 : f9.2.next.cycle ≡ f9.0 = f9.2.cycle in
          let here : one.cycle ≡ x + o = i.cycle in
          let there : next.cycle ≡ one.cycle + c = g.step.cycle in
          let least : 1 ≤ c = g.step.least in
          let low10 = by_latch s k f10.0 f10.2 f9.2.step f9.2.one f9.2.next f9.2.falls
          (omega (arith, e10, e9, at9)) (omega (arith, e10, e9, at9)) in
          let low1 = by_latch s k f1.0 f1.2 k one next f (omega (arith, e1)) (omega (arith, e1)) in
          let c10 = at_cell k f10.0 (omega (arith, b)) f10.2 low10 (omega (arith, e10, here, there, least)) in
          let c1 = at_cell k f1.0 (omega (arith, b)) f1.2 low1 (omega (arith, e1, here, there, least)) in
          let from10 : x + 288 + 32 * c10.cell < f10.0 = c10.from in
          let to10 : f10.0 ≤ x + 290 + 32 * c10.cell = c10.to in
          let from1 : x + 288 + 32 * c1.cell < f1.0 = c1.from in
          let to1 : f1.0 ≤ x + 290 + 32 * c1.cell = c1.to in
          by_cells f c10.cell c1.cell c1.few (omega (arith, from10, e10, here, there)) (omega (arith, to10, e10, here, there))
          (omega (arith, from1, e1, here, there)) (omega (arith, to1, e1, here, there))
          (eleven_at_most s.events x start old v was is frame fits idle)

      -- a fall before a frame's last cell completes no transfer
      pub silent : completed (sample_in next) (heard_to s k) ≡ None
      silent = by (completed (sample_in next) (heard_to s k)) refl
        where
          by : (q : Option Transfer) → completed (sample_in next) (heard_to s k) ≡ q → completed (sample_in next) (heard_to s k) ≡ None
          by None e = e
          by (Some r) e = absurd (completes_none r e)
