-- The steps of a tick: where they lead, and what ends in them.
use Rattle.std.proofs.Common.{◌≡◌, ◌≤◌, ◌<◌, ◌⊎◌, inl, inr, ℕ, suc, zero, ◌+◌, ◌-◌, ◌*◌, List, [], ◌++◌, Bool, true, false}
use Rattle.std.proofs.Common.{nat_lt, refl, ap, sym, ◌∙◌, arith}
use Rattle.std.proofs.lemmas.Bool.Decides.{nat_tests}
use Rattle.std.proofs.lemmas.List.{append-nil}
use Rattle.bits.specs.Bits.{bit}
use Rattle.board_terms.specs.declared.event.HostEvent.{HostEvent}
use Rattle.ctl_link.specs.Link.{is_busy}
use Rattle.law_fw_link.proofs.Wired.{IsReleased, spans_on}
use Rattle.law_fw_link.specs.Latch.{Frame}
use Rattle.joint_run.specs.Joint.{Beside, joint_board, joint_cycle, latch_of}
use Rattle.joint_run.specs.Run.{World}
use Rattle.law_wires_heard.proofs.Clock.{cells, clock_in, before_cells, late_in_cell, falls_at, cell_begins, Fits, IsEdge}
use Rattle.law_wires_heard.proofs.Pulls.{link_of}
use Rattle.law_wires_heard.proofs.Ticks.{latch, last_latch, beside, beside_next, drives, none_ends, IsIn, Goes}
use Rattle.law_wires_heard.specs.Passing.{ended_in, ended_within, passed_in}

one_or_two : (c : ℕ) → 1 ≤ c → c ≤ 2 → (c ≡ 1) ⊎ (c ≡ 2)
one_or_two zero l u = absurd (omega (arith, l))
one_or_two (suc zero) l u = inl refl
one_or_two (suc (suc zero)) l u = inr refl
one_or_two (suc (suc (suc c))) l u = absurd (omega (arith, u))

-- the cycle before a cell
pub high_before : (n k : ℕ) → clock_in n (287 + 32 * k) ≡ true
high_before n k = by (nat_lt (287 + 32 * k) 288) refl
  where
    by : (c : Bool) → nat_lt (287 + 32 * k) 288 ≡ c → clock_in n (287 + 32 * k) ≡ true
    by true e = let l : 287 + 32 * k < 288 = grind (arith, nat_tests, e) in before_cells n (287 + 32 * k) l
    by false e =
        let l : 288 ≤ 287 + 32 * k = grind (arith, nat_tests, e) in
        late_in_cell n (287 + 32 * k) l (omega (arith, l))

module _ (events : List HostEvent) (x : ℕ) (start : Beside) (old v : ℕ) (was : IsReleased old) (is : IsReleased v)
    (frame : Frame) (fits : Fits old v was is frame) (idle : is_busy (link_of start) ≡ false) where
  abbrev n : ℕ
  n = cells frame

  abbrev L : ℕ → ℕ
  L = latch events x start old v was is frame fits idle

  abbrev B : ℕ → Beside
  B = beside events x start old v was is frame fits idle

  abbrev In : World Beside → ℕ → Type 0
  In = IsIn events x start old v was is frame fits idle

  abbrev On : World Beside → World Beside → Type 0
  On = Goes events x start old v was is frame fits idle

  abbrev Last : ℕ → ℕ
  Last = last_latch events x start old v was is frame fits idle

  clock : (o : ℕ) → bit 0 (L o) ≡ clock_in n o
  clock = drives events x start old v was is frame fits idle

  -- the latch at the step's first cycle, and at each of its cycles
  pub first_latch : (one next : World Beside) (o : ℕ) → In one o → On one next → next.cpu.p2 ≡ L o
  first_latch one next o i g =
      let a : one.cycle ≡ x + o = i.cycle in
      let b : next.cycle ≡ one.cycle + g.step.count = g.step.cycle in
      let l : 1 ≤ g.step.count = g.step.least in
      let z : one.cycle - x ≡ o = omega (arith, a) in
      g.latches one.cycle (omega arith) (omega (arith, b, l)) ∙ ap L z

  each_latch : (one next : World Beside) (o : ℕ) → In one o → (g : On one next) → (j : ℕ) → j < g.step.count → L (o + j) ≡ next.cpu.p2
  each_latch one next o i g j l =
      let a : one.cycle ≡ x + o = i.cycle in
      let b : next.cycle ≡ one.cycle + g.step.count = g.step.cycle in
      let z : one.cycle + j - x ≡ o + j = omega (arith, a) in
      ap L (sym z) ∙ sym (g.latches (one.cycle + j) (omega arith) (omega (arith, b, l)))

  -- the last cycle's latch is the state's
  ends_with : (one next : World Beside) (o : ℕ) → In one o → (g : On one next) → next.cpu.p2 ≡ Last (o + g.step.count)
  ends_with one next o i g =
      let l : 1 ≤ g.step.count = g.step.least in
      let z : suc (o + (g.step.count - 1)) ≡ o + g.step.count = omega (arith, l) in
      sym (each_latch one next o i g (g.step.count - 1) (omega (arith, l))) ∙ ap Last z

  -- where a step begins at a cell's first cycle the latch has changed, and it takes two cycles
  pub slow_at_cell : (one next : World Beside) (o k : ℕ) → In one o → (g : On one next) → k < n → o ≡ 288 + 32 * k → g.step.count ≡ 2
  slow_at_cell one next o k i g few at =
      elim g.step.slow [
        | inl same ↦
            let z : o ≡ suc (287 + 32 * k) = omega (arith, at) in
            let now : bit 0 next.cpu.p2 ≡ false =
            ap (bit 0) (first_latch one next o i g) ∙ clock o ∙ ap (clock_in n) at ∙ cell_begins n k few in
            let before : bit 0 one.cpu.p2 ≡ clock_in n (287 + 32 * k) =
            ap (bit 0) (i.p2 ∙ ap Last z) ∙ clock (287 + 32 * k) in
            let high : clock_in n (287 + 32 * k) ≡ true = high_before n k in
            absurd (let e : true ≡ false = sym high ∙ sym before ∙ ap (bit 0) (sym same) ∙ now in cc)
        | inr two ↦ two
      ]

  -- no step has a cell's first cycle as its second
  not_across : (one next : World Beside) (o k : ℕ) → In one o → (g : On one next) → k < n → o ≡ 287 + 32 * k → g.step.count ≡ 2 → ⊥
  not_across one next o k i g few at two =
      let z : o + 1 ≡ 288 + 32 * k = omega (arith, at) in
      let low : bit 0 next.cpu.p2 ≡ false =
      ap (bit 0) (sym (each_latch one next o i g 1 (omega (arith, two)))) ∙ clock (o + 1) ∙ ap (clock_in n) z ∙ cell_begins n k few in
      let high : bit 0 next.cpu.p2 ≡ true = ap (bit 0) (first_latch one next o i g) ∙ clock o ∙ ap (clock_in n) at ∙ high_before n k in
      let e : true ≡ false = sym high ∙ low in
      cc

  -- so a step leads from state to state of the tick
  pub goes_in : (one next : World Beside) (o : ℕ) → In one o → (g : On one next) → In next (o + g.step.count)
  goes_in one next o i g =
      let a : one.cycle ≡ x + o = i.cycle in
      let b : next.cycle ≡ one.cycle + g.step.count = g.step.cycle in
      record {
        cycle = omega (arith, a, b);
        board = g.step.board
            ∙ spans_on (joint_board [] events) x L g.step.count o one.cycle next.cpu.p2 one.board start a
            (λ j l. each_latch one next o i g j l) i.board;
        p2 = ends_with one next o i g;
        between = λ k few at. elim (one_or_two g.step.count g.step.least g.step.most) [
          | inl single ↦
              let o_is : o ≡ 288 + 32 * k = omega (arith, at, single) in
              let two : g.step.count ≡ 2 = slow_at_cell one next o k i g few o_is in
              absurd (omega (arith, single, two))
          | inr two ↦ not_across one next o k i g few (omega (arith, at, two)) two
        ];
      }

  -- where the clock falls by the latch, a cell begins
  pub fall_by_latch : (one next : World Beside) (o : ℕ) → In one o → On one next → (latch_of one.cpu.p2).clk ≡ true
      → (latch_of next.cpu.p2).clk ≡ false → IsEdge n o
  fall_by_latch one next o i g high low =
      by o (i.p2) (sym (clock o) ∙ ap (bit 0) (sym (first_latch one next o i g)) ∙ low)
    where
      by : (o : ℕ) → one.cpu.p2 ≡ Last o → clock_in n o ≡ false → IsEdge n o
      by zero p low = absurd (let z : true ≡ false = low in cc)
      by (suc o) p low = falls_at n o (sym (clock o) ∙ ap (bit 0) (sym p) ∙ high) low

  -- what ends in a step
  within : (one next : World Beside) (o : ℕ) → In one o → (g : On one next)
      → passed_in events one next ≡ ended_within events (L o) (x + o) g.step.count (B o)
  within one next o i g =
      let b : next.cycle ≡ one.cycle + g.step.count = g.step.cycle in
      let z : next.cycle - one.cycle ≡ g.step.count = omega (arith, b) in
      ap (λ p. ended_within events p one.cycle (next.cycle - one.cycle) one.board) (first_latch one next o i g)
      ∙ ap (λ m. ended_within events (L o) one.cycle m one.board) z
      ∙ ap (λ c. ended_within events (L o) c g.step.count one.board) i.cycle
      ∙ ap (λ s. ended_within events (L o) (x + o) g.step.count s) i.board

  -- the second cycle of a step
  second : (one next : World Beside) (o : ℕ) → In one o → (g : On one next) → g.step.count ≡ 2
      → ended_in (latch_of (L o)) (joint_cycle events (L o) (x + o) (B o)).pc ≡ ended_in (latch_of (L (suc o))) (B (suc o)).pc
  second one next o i g two =
      let z : o + 1 ≡ suc o = omega arith in
      let same : L o ≡ L (suc o) =
      sym (first_latch one next o i g) ∙ sym (each_latch one next o i g 1 (omega (arith, two))) ∙ ap L z in
      ap (λ (s : Beside). ended_in (latch_of (L o)) s.pc) (sym (beside_next events x start old v was is frame fits idle o))
      ∙ ap (λ p. ended_in (latch_of p) (B (suc o)).pc) same

  abbrev pub IsLast : ℕ → Type 0
  IsLast o = (o ≡ 608) × (n ≡ 11)

  none : (o : ℕ) → (IsLast o → ⊥) → ended_in (latch_of (L o)) (B o).pc ≡ []
  none = none_ends events x start old v was is frame fits idle

  by_count : (o c : ℕ) → (c ≡ 1) ⊎ (c ≡ 2)
      → (c ≡ 2 → ended_in (latch_of (L o)) (joint_cycle events (L o) (x + o) (B o)).pc ≡ [])
      → ended_within events (L o) (x + o) c (B o) ≡ ended_in (latch_of (L o)) (B o).pc
  by_count o c (inl single) h =
      ap (λ m. ended_within events (L o) (x + o) m (B o)) single ∙ append-nil (ended_in (latch_of (L o)) (B o).pc)
  by_count o c (inr two) h =
      ap (λ m. ended_within events (L o) (x + o) m (B o)) two
      ∙ ap (λ ts. ended_in (latch_of (L o)) (B o).pc ++ (ts ++ [])) (h two)
      ∙ append-nil (ended_in (latch_of (L o)) (B o).pc)

  -- a byte ends where the eleventh cell begins
  pub ends_there : (one next : World Beside) (o : ℕ) → In one o → (g : On one next)
      → (g.step.count ≡ 2 → IsLast (suc o) → ⊥) → passed_in events one next ≡ ended_in (latch_of (L o)) (B o).pc
  ends_there one next o i g h =
      within one next o i g
      ∙ by_count o g.step.count (one_or_two g.step.count g.step.least g.step.most)
      (λ two. second one next o i g two ∙ none (suc o) (h two))

  across : (one next : World Beside) (o : ℕ) → In one o → (g : On one next) → g.step.count ≡ 2 → IsLast (suc o) → ⊥
  across one next o i g two last =
      let a : suc o ≡ 608 = last.0 in
      let b : n ≡ 11 = last.1 in
      not_across one next o 10 i g (omega (arith, b)) (omega (arith, a)) two

  -- and nowhere else
  pub ends_nothing : (one next : World Beside) (o : ℕ) → In one o → (g : On one next) → (IsLast o → ⊥) → passed_in events one next ≡ []
  ends_nothing one next o i g h = ends_there one next o i g (across one next o i g) ∙ none o h

  -- what passes in the step from offset 608 is what ends in the cycle of the last fall
  pub ends_last : (one next : World Beside) (o : ℕ) → In one o → (g : On one next) → o ≡ 608
      → passed_in events one next ≡ ended_in (latch_of (L o)) (B o).pc
  ends_last one next o i g at =
      ends_there one next o i g (λ two last. let a : suc o ≡ 608 = last.0 in absurd (omega (arith, a, at)))
