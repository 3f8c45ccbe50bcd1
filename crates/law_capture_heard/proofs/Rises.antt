-- A pulse of the clock by the latch alone is 16 cycles long, and any other one 62 at least.
use Rattle.std.proofs.Common.{◌≡◌, ◌≤◌, ◌<◌, ◌⊎◌, inl, inr, ℕ, zero, suc, ◌+◌, ◌-◌, ◌*◌, ◌/◌, ◌%◌, Bool, true, false, ◌&&◌, ◌==◌, Some}
use Rattle.std.proofs.Common.{nat_le, nat_lt, refl, ap, sym, subst, ◌∙◌, arith}
use Rattle.std.proofs.lemmas.Bool.Decides.{nat_tests}
use Rattle.bits.specs.Bits.{bit}
use Rattle.ctl_link.specs.Link.{is_busy}
use Rattle.law_fw_link.proofs.Wired.{IsReleased}
use Rattle.law_fw_link.specs.Latch.{Frame}
use Rattle.joint_feed.specs.Stories.{Story, state_at}
use Rattle.joint_run.specs.Joint.{Beside, latch_of}
use Rattle.joint_run.specs.Run.{World}
use Rattle.law_wires_heard.proofs.Clock.{Fits, cells, clock_in, late_in_cell}
use Rattle.law_wires_heard.proofs.Pulls.{Falls, Pulled, both_high, comes_from, later, lets, link_of, same_state, shown_at, step_begins, step_keeps}
use Rattle.law_wires_heard.proofs.Silent.{IsTick, placed}
use Rattle.law_wires_heard.proofs.Stepping.{fall_by_latch, first_latch, goes_in, slow_at_cell}
use Rattle.law_wires_heard.proofs.Steps.{StepOf}
use Rattle.law_wires_heard.proofs.Ticks.{Goes, IsIn, drives, last_latch, latch}

module _ (s : Story) where
  -- for 64 cycles after a state at which the controller leaves the clock alone, it does so, or pulls it since then
  pub pulls_since : (n i : ℕ) (a u : World Beside) → state_at s i ≡ Some a → state_at s (n + i) ≡ Some u
      → lets a.board ≡ true → u.cycle ≤ a.cycle + 64 → (lets u.board ≡ true) ⊎ Pulled a.cycle u.board
  pulls_since zero i a u from to high soon =
      let z : 0 + i ≡ i = omega arith in
      inl (ap (λ (v : World Beside). lets v.board)
      (same_state s i u a (ap (λ j. state_at s j) (sym z) ∙ to) from) ∙ high)
  pulls_since (suc n) i a u from to high soon =
      let z : suc n + i ≡ suc (n + i) = omega arith in
      let c = comes_from s (n + i) u (ap (λ j. state_at s j) (sym z) ∙ to) in
      let is : u.cycle ≡ c.before.cycle + c.step.count = c.step.cycle in
      let order : a.cycle + n ≤ c.before.cycle = later s n i a c.before from c.at in
      elim (pulls_since n i a c.before from c.at high (omega (arith, is, soon))) [
        | inl alone ↦ by c.before c.step (omega (arith, order)) alone (lets u.board) refl
        | inr p ↦
            let since : a.cycle ≤ p.0 = p.1 in
            inr (p.0, since, step_keeps s.events c.before u c.step p.0 p.2 (omega (arith, since, soon)))
      ]
    where
      by : (v : World Beside) → StepOf s.events v u → a.cycle ≤ v.cycle → lets v.board ≡ true → (b : Bool) → lets u.board ≡ b
          → (lets u.board ≡ true) ⊎ Pulled a.cycle u.board
      by v step order alone true e = inl e
      by v step order alone false e =
          let p = step_begins s.events v u step alone e in
          let since : v.cycle ≤ p.0 = p.1 in
          inr (p.0, omega (arith, since, order), p.2)

-- a low clock within a cell
pub low_in : (n c o : ℕ) → c < n → 288 + 32 * c ≤ o → o < 304 + 32 * c → clock_in n o ≡ false
low_in n c o few from to =
    let e : nat_lt o 288 ≡ false = grind (arith, nat_tests, from) in
    let q : (o - 288) / 32 ≡ c = omega (arith, from, to) in
    let r : (o - 288) % 32 < 16 = omega (arith, from, to) in
    let f : nat_le n ((o - 288) / 32) ≡ false = grind (arith, nat_tests, few, q) in
    let g : nat_le 16 ((o - 288) % 32) ≡ false = grind (arith, nat_tests, r) in
    rw (e, f, g) refl

-- and the cycle in which it rises
pub high_at : (n c : ℕ) → clock_in n (304 + 32 * c) ≡ true
high_at n c = late_in_cell n (304 + 32 * c) (omega arith) (omega arith)

-- in a tick
module _ (s : Story) (k0 k1 x : ℕ) (start : Beside) (old v : ℕ) (was : IsReleased old) (is : IsReleased v)
    (frame : Frame) (fits : Fits old v was is frame) (idle : is_busy (link_of start) ≡ false)
    (t : IsTick s k0 k1 x start old v was is frame fits idle) where
  abbrev n : ℕ
  n = cells frame

  abbrev L : ℕ → ℕ
  L = latch s.events x start old v was is frame fits idle

  abbrev Last : ℕ → ℕ
  Last = last_latch s.events x start old v was is frame fits idle

  abbrev In : World Beside → ℕ → Type 0
  In = IsIn s.events x start old v was is frame fits idle

  abbrev On : World Beside → World Beside → Type 0
  On = Goes s.events x start old v was is frame fits idle

  clock : (o : ℕ) → bit 0 (L o) ≡ clock_in n o
  clock = drives s.events x start old v was is frame fits idle

  -- the latch in a step of two cycles
  pub second_latch : (one next : World Beside) (o : ℕ) → In one o → (g : On one next) → g.step.count ≡ 2 → next.cpu.p2 ≡ L (suc o)
  second_latch one next o i g two =
      let a : one.cycle ≡ x + o = i.cycle in
      let b : next.cycle ≡ one.cycle + g.step.count = g.step.cycle in
      let z : one.cycle + 1 - x ≡ suc o = omega (arith, a) in
      g.latches (one.cycle + 1) (omega arith) (omega (arith, b, two)) ∙ ap L z

  module _ (i : ℕ) (one next : World Beside) (f : Falls s i one next) (a : k0 ≤ i) (b : i < k1)
      (low : (latch_of next.cpu.p2).clk ≡ false) where
    here : (o : ℕ) × In one o
    here = placed s k0 k1 x start old v was is frame fits idle t i one a (le b) f.from
      where
        le : i < k1 → i ≤ k1
        le l = omega (arith, l)

    abbrev o : ℕ
    o = here.0

    goes : On one next
    goes = t.goes i one next a b f.from f.to

    -- the cell whose clock it is
    pub record IsCell : Type 0 where
      pub cell : ℕ
      pub few : cell < n
      pub there : In next (290 + 32 * cell)

    -- the clock fell at the beginning of a cell
    pub cell_is : IsCell
    cell_is =
        let up = both_high (latch_of one.cpu.p2).clk (lets one.board) f.high in
        let edge = fall_by_latch s.events x start old v was is frame fits idle one next o here.1 goes up.0 low in
        let at : o ≡ 288 + 32 * edge.cell = edge.at in
        let two : goes.step.count ≡ 2 =
        slow_at_cell s.events x start old v was is frame fits idle one next o edge.cell here.1 goes edge.few at in
        let z : o + goes.step.count ≡ 290 + 32 * edge.cell = omega (arith, at, two) in
        record {
          cell = edge.cell;
          few = edge.few;
          there = subst (λ m. In next m) z (goes_in s.events x start old v was is frame fits idle one next o here.1 goes);
        }

    module _ (c : IsCell) where
      abbrev cell : ℕ
      cell = c.cell

      -- a state in that cell
      record Within (u : World Beside) : Type 0 where
        pub offset : ℕ
        pub placed_at : In u offset
        pub from : 290 + 32 * cell ≤ offset
        pub to : offset ≤ 304 + 32 * cell

      -- the clock is low, though the controller leaves it alone
      abbrev pub IsLowAlone : ℕ → ℕ → Type 0
      IsLowAlone first last =
          (j : ℕ) (u : World Beside) → first ≤ j → j ≤ last → state_at s j ≡ Some u
          → ((shown_at s u).clk ≡ false) × (lets u.board ≡ true)

      next_within : (u w : World Beside) (h : Within u) → On u w → (shown_at s w).clk ≡ false → lets w.board ≡ true → Within w
      next_within u w h g down alone =
          let from : 290 + 32 * cell ≤ h.offset = h.from in
          let to : h.offset ≤ 304 + 32 * cell = h.to in
          let least : 1 ≤ g.step.count = g.step.least in
          let most : g.step.count ≤ 2 = g.step.most in
          record {
            offset = h.offset + g.step.count;
            placed_at = goes_in s.events x start old v was is frame fits idle u w h.offset h.placed_at g;
            from = omega (arith, from);
            to = by (h.offset == 304 + 32 * cell) refl (nat_le (h.offset + g.step.count) (304 + 32 * cell)) refl;
          }
        where
          latch_low : (latch_of w.cpu.p2).clk ≡ false
          latch_low = sym (and-true' (latch_of w.cpu.p2).clk) ∙ ap (λ d. (latch_of w.cpu.p2).clk && d) (sym alone) ∙ down
            where
              and-true' : (d : Bool) → (d && true) ≡ d
              and-true' true = refl
              and-true' false = refl

          by : (p : Bool) → (h.offset == 304 + 32 * cell) ≡ p → (q : Bool) → nat_le (h.offset + g.step.count) (304 + 32 * cell) ≡ q
              → h.offset + g.step.count ≤ 304 + 32 * cell
          by p e true d = grind (arith, nat_tests, d)
          by true e false d =
              let at : h.offset ≡ 304 + 32 * cell = grind (arith, nat_tests, e) in
              let high : (latch_of w.cpu.p2).clk ≡ true =
              ap (bit 0) (first_latch s.events x start old v was is frame fits idle u w h.offset h.placed_at g)
              ∙ clock h.offset ∙ ap (clock_in n) at ∙ high_at n cell in
              absurd (let z : true ≡ false = sym high ∙ latch_low in cc)
          by false e false d =
              let from : 290 + 32 * cell ≤ h.offset = h.from in
              let to : h.offset ≤ 304 + 32 * cell = h.to in
              let most : g.step.count ≤ 2 = g.step.most in
              let at : suc h.offset ≡ 304 + 32 * cell = grind (arith, nat_tests, e, d, to, most) in
              let two : g.step.count ≡ 2 = grind (arith, nat_tests, e, d, to, most) in
              let high : (latch_of w.cpu.p2).clk ≡ true =
              ap (bit 0) (second_latch u w h.offset h.placed_at g two) ∙ clock (suc h.offset) ∙ ap (clock_in n) at ∙ high_at n cell in
              absurd (let z : true ≡ false = sym high ∙ latch_low in cc)

      going : (m : ℕ) (u : World Beside) → m + suc i ≤ k1 → state_at s (m + suc i) ≡ Some u → IsLowAlone (suc i) (m + suc i) → Within u
      going zero u l at lows =
          let z : 0 + suc i ≡ suc i = omega arith in
          let same : next ≡ u =
          same_state s (suc i) next u f.to (ap (λ j. state_at s j) (sym z) ∙ at) in
          record { offset = 290 + 32 * cell; placed_at = subst (λ w. In w (290 + 32 * cell)) same c.there; from = omega arith; to = omega arith }
      going (suc m) u l at lows =
          let z : suc m + suc i ≡ suc (m + suc i) = omega arith in
          let to : state_at s (suc (m + suc i)) ≡ Some u = ap (λ j. state_at s j) (sym z) ∙ at in
          let came = comes_from s (m + suc i) u to in
          let before = going m came.before (omega (arith, l)) came.at (λ j w first last there. lows j w first (omega (arith, last)) there) in
          let g = t.goes (m + suc i) came.before u (omega (arith, a)) (omega (arith, l)) came.at to in
          let now = lows (suc m + suc i) u (omega arith) (omega arith) at in
          next_within came.before u before g now.0 now.1

      -- the clock rises 16 cycles after it fell
      pub rises_after : (k : ℕ) (u w : World Beside) → suc i ≤ k → k < k1 → state_at s k ≡ Some u → state_at s (suc k) ≡ Some w
          → IsLowAlone (suc i) k → (shown_at s w).clk ≡ true → w.cycle ≡ next.cycle + 16
      rises_after k u w past within from to lows high =
          let z : (k - suc i) + suc i ≡ k = omega (arith, past) in
          let h = going (k - suc i) u (omega (arith, within, past)) (ap (λ j. state_at s j) z ∙ from)
          (λ j v first last there. lows j v first (omega (arith, last, past)) there) in
          let g = t.goes k u w (omega (arith, a, past)) within from to in
          let up = both_high (latch_of w.cpu.p2).clk (lets w.board) high in
          by h g up.0
        where
          by : (h : Within u) → (g : On u w) → (latch_of w.cpu.p2).clk ≡ true → w.cycle ≡ next.cycle + 16
          by h g up =
              let first : 290 + 32 * cell ≤ h.offset = h.from in
              let last : h.offset ≤ 304 + 32 * cell = h.to in
              let at : h.offset ≡ 304 + 32 * cell = reached (nat_lt h.offset (304 + 32 * cell)) refl in
              let two : g.step.count ≡ 2 = elim g.step.slow [
                | inl same ↦
                    let y : h.offset ≡ suc (303 + 32 * cell) = omega (arith, at) in
                    let was_low : (latch_of u.cpu.p2).clk ≡ false =
                    ap (bit 0) (h.placed_at.p2 ∙ ap Last y) ∙ clock (303 + 32 * cell)
                    ∙ low_in n cell (303 + 32 * cell) c.few (omega arith) (omega arith) in
                    absurd (let e : true ≡ false = sym up ∙ ap (bit 0) same ∙ was_low in cc)
                | inr two ↦ two
              ] in
              let here_is : next.cycle ≡ x + (290 + 32 * cell) = c.there.cycle in
              let u_is : u.cycle ≡ x + h.offset = h.placed_at.cycle in
              let w_is : w.cycle ≡ u.cycle + g.step.count = g.step.cycle in
              omega (arith, here_is, u_is, w_is, two, at)
            where
              reached : (q : Bool) → nat_lt h.offset (304 + 32 * cell) ≡ q → h.offset ≡ 304 + 32 * cell
              reached false e = let last : h.offset ≤ 304 + 32 * cell = h.to in grind (arith, nat_tests, e, last)
              reached true e =
                  let first : 290 + 32 * cell ≤ h.offset = h.from in
                  let less : h.offset < 304 + 32 * cell = grind (arith, nat_tests, e) in
                  let down : (latch_of w.cpu.p2).clk ≡ false =
                  ap (bit 0) (first_latch s.events x start old v was is frame fits idle u w h.offset h.placed_at g)
                  ∙ clock h.offset ∙ low_in n cell h.offset c.few (omega (arith, first)) less in
                  absurd (let y : true ≡ false = sym up ∙ down in cc)
