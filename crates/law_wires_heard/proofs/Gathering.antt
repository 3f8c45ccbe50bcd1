-- In a frame of eleven cells in which the controller leaves the clock alone, the falls that are kept are those of its
-- cells, 32 cycles apart.
use Rattle.std.proofs.Common.{◌≡◌, ◌≤◌, ◌<◌, ◌⊎◌, inl, inr, ℕ, suc, zero, ◌+◌, ◌-◌, ◌*◌, List, []}
use Rattle.std.proofs.Common.{◌++◌, length, drop, Bool, true, false, not, ◌&&◌, ◌==◌}
use Rattle.std.proofs.Common.{Some, None, if◌then◌else◌, nat_lt, refl, ap, sym, ◌∙◌, subst, arith}
use Rattle.std.proofs.lemmas.Bool.Decides.{nat_tests}
use Rattle.std.proofs.lemmas.List.{append-nil, drop_all}
use Rattle.bits.proofs.Every.{same_of}
use Rattle.bits.specs.Bits.{bit}
use Rattle.board_terms.specs.declared.lines.Lines.{Lines}
use Rattle.ctl_link.specs.Link.{is_busy}
use Rattle.run_probes.specs.Transfers.{completed, fall_at, is_fall}
use Rattle.run_probes.specs.Transfers.{transfer_by, transfer_in, with_fall}
use Rattle.run_probes.specs.declared.heard.Fall.{Fall}
use Rattle.law_fw_link.proofs.Wired.{IsReleased}
use Rattle.law_fw_link.specs.Latch.{Frame}
use Rattle.joint_feed.specs.Stories.{Story, state_at}
use Rattle.joint_run.specs.Joint.{Beside, latch_of}
use Rattle.joint_run.specs.Run.{World}
use Rattle.ctl_wire.specs.Wires.{wires}
use Rattle.law_wires_heard.proofs.CellFalls.{cell_falls, eleven_of, transfer_is, with_cell}
use Rattle.law_wires_heard.proofs.Clock.{cells, clock_in, cell_begins, Fits, IsEdge}
use Rattle.law_wires_heard.proofs.Ears.{last_is, high_low}
use Rattle.law_wires_heard.proofs.Pulls.{link_of, lets, both_high, comes_from, shown_at}
use Rattle.law_wires_heard.proofs.Silent.{IsTick, same_start}
use Rattle.law_wires_heard.proofs.Stepping.{first_latch, goes_in, fall_by_latch, slow_at_cell, high_before}
use Rattle.law_wires_heard.proofs.Ticks.{latch, last_latch, beside, drives, IsIn, Goes}
use Rattle.law_wires_heard.specs.Hearing.{heard_in, heard_to, sample_in}

module _ (story : Story) (first_step end_step start_cycle : ℕ) (start : Beside) (old new : ℕ) (was : IsReleased old) (is : IsReleased new)
    (frame : Frame) (fits : Fits old new was is frame) (idle : is_busy (link_of start) ≡ false)
    (tick : IsTick story first_step end_step start_cycle start old new was is frame fits idle) (eleven : cells frame ≡ 11)
    (left_alone : (offset : ℕ)
    → 288 ≤ offset → offset ≤ 608 → lets (beside story.events start_cycle start old new was is frame fits idle offset) ≡ true) where
  abbrev cell_count : ℕ
  cell_count = cells frame

  abbrev side_at : ℕ → Beside
  side_at = beside story.events start_cycle start old new was is frame fits idle

  abbrev latch_at : ℕ → ℕ
  latch_at = latch story.events start_cycle start old new was is frame fits idle

  abbrev IsThere : World Beside → ℕ → Type 0
  IsThere = IsIn story.events start_cycle start old new was is frame fits idle

  abbrev Follows : World Beside → World Beside → Type 0
  Follows = Goes story.events start_cycle start old new was is frame fits idle

  clock : (offset : ℕ) → bit 0 (latch_at offset) ≡ clock_in cell_count offset
  clock = drives story.events start_cycle start old new was is frame fits idle

  -- the data wire at the fall of each cell
  abbrev pub dat : ℕ → Bool
  dat cell = (wires (latch_of (latch_at (289 + 32 * cell))) (side_at (290 + 32 * cell)).pc).dat

  -- the falls of the cells so far, after earlier ones
  pub record Gathered (steps offset : ℕ) : Type 0 where
    pub count : ℕ
    pub from : (count ≡ 0) ⊎ (258 + 32 * count ≤ offset)
    pub to : offset < 290 + 32 * count
    pub earlier : List Fall
    pub falls : (heard_to story steps).falls ≡ earlier ++ cell_falls start_cycle dat count

  none_yet : (steps offset : ℕ) → offset < 290 → Gathered steps offset
  none_yet steps offset early =
      record {
        count = 0;
        from = inl refl;
        to = omega (arith, early);
        earlier = (heard_to story steps).falls;
        falls = sym (append-nil (heard_to story steps).falls);
      }

  -- the fall of a cell
  fall_is : (next : World Beside) (cell : ℕ)
      → IsThere next (290 + 32 * cell) → fall_at (sample_in next) ≡ record { cycle = start_cycle + (290 + 32 * cell); dat = dat cell }
  fall_is next cell there =
      let next_cycle : suc (289 + 32 * cell) ≡ 290 + 32 * cell = omega arith in
      ap (λ cycle. fall_at (record { cycle = cycle; lines = shown_at story next })) there.cycle
      ∙ ap (λ latch_shown. fall_at (record { cycle = start_cycle + (290 + 32 * cell); lines = wires (latch_of latch_shown) next.board.pc }))
      (there.p2 ∙ ap (last_latch story.events start_cycle start old new was is frame fits idle) (sym next_cycle))
      ∙ ap (λ (side : Beside).
      fall_at (record { cycle = start_cycle + (290 + 32 * cell); lines = wires (latch_of (latch_at (289 + 32 * cell))) side.pc }))
      there.board

  -- the falls that are kept after a step
  kept : (steps : ℕ) (one next : World Beside) → state_at story steps ≡ Some one → state_at story (suc steps) ≡ Some next
      → (heard_to story (suc steps)).falls
      ≡ (if is_fall (shown_at story one) (shown_at story next) then with_fall (fall_at (sample_in next)) (heard_to story steps).falls
      else (heard_to story steps).falls)
  kept steps one next from to =
      ap (λ world. (heard_in world (heard_to story steps)).falls) to
      ∙ ap (λ (levels : Lines). if is_fall levels (shown_at story next)
      then with_fall (fall_at (sample_in next)) (heard_to story steps).falls
      else (heard_to story steps).falls) (last_is story steps one from)

  module _ (steps offset : ℕ) (one next : World Beside) (from : state_at story steps ≡ Some one)
      (to : state_at story (suc steps) ≡ Some next)
      (holds_so : IsThere one offset) (goes : Follows one next) where
    abbrev passed : ℕ
    passed = goes.step.count

    -- within the frame the clock falls where a cell begins, and there alone
    falls_there : 288 ≤ offset + passed → offset + passed ≤ 610
        → lets next.board ≡ true → is_fall (shown_at story one) (shown_at story next) ≡ true → IsEdge cell_count offset
    falls_there at_least at_most alone falling =
        let levels = high_low (shown_at story one).clk (shown_at story next).clk falling in
        let up = both_high (latch_of one.cpu.p2).clk (lets one.board) levels.0 in
        let low : (latch_of next.cpu.p2).clk ≡ false = by (latch_of next.cpu.p2).clk refl levels.1 alone in
        fall_by_latch story.events start_cycle start old new was is frame fits idle one next offset holds_so goes up.0 low
      where
        by : (level : Bool)
            → (latch_of next.cpu.p2).clk ≡ level → ((latch_of next.cpu.p2).clk && lets next.board) ≡ false → lets next.board ≡ true
            → (latch_of next.cpu.p2).clk ≡ false
        by true level_is low alone =
            let impossible : (true && true) ≡ false =
            ap (λ now. now && true) (sym level_is) ∙ ap (λ now. (latch_of next.cpu.p2).clk && now) (sym alone) ∙ low in
            absurd cc
        by false level_is low alone = level_is

    falls_at_cell : (cell : ℕ)
        → cell < cell_count → offset ≡ 288 + 32 * cell → offset ≤ 608 → is_fall (shown_at story one) (shown_at story next) ≡ true
    falls_at_cell cell few at most =
        let offset_is : offset ≡ suc (287 + 32 * cell) = omega (arith, at) in
        let low : (latch_of next.cpu.p2).clk ≡ false =
        ap (bit 0) (first_latch story.events start_cycle start old new was is frame fits idle one next offset holds_so goes)
        ∙ clock offset ∙ ap (clock_in cell_count) at ∙ cell_begins cell_count cell few in
        let high : (latch_of one.cpu.p2).clk ≡ true =
        ap (bit 0) (holds_so.p2 ∙ ap (last_latch story.events start_cycle start old new was is frame fits idle) offset_is)
        ∙ clock (287 + 32 * cell) ∙ high_before cell_count cell in
        let alone : lets one.board ≡ true = ap lets holds_so.board ∙ left_alone offset (omega (arith, at)) most in
        ap (λ now. (now && lets one.board) && not ((latch_of next.cpu.p2).clk && lets next.board)) high
        ∙ ap (λ now. now && not ((latch_of next.cpu.p2).clk && lets next.board)) alone
        ∙ ap (λ now. not (now && lets next.board)) low

    -- so the falls gathered go on
    more_by : (there : IsThere next (offset + passed))
        → Gathered steps offset → offset + passed ≤ 608 → (early : Bool) → nat_lt (offset + passed) 290 ≡ early → (falling : Bool)
        → is_fall (shown_at story one) (shown_at story next) ≡ falling → Gathered (suc steps) (offset + passed)
    more_by there gathered most true early_is falling falling_is =
        none_yet (suc steps) (offset + passed) (grind (arith, nat_tests, early_is))
    more_by there gathered most false early_is true falling_is =
        let in_frame : 290 ≤ offset + passed = grind (arith, nat_tests, early_is) in
        let alone : lets next.board ≡ true = ap lets there.board ∙ left_alone (offset + passed) (omega (arith, in_frame)) most in
        let edge = falls_there (omega (arith, in_frame)) (omega (arith, most)) alone falling_is in
        let at : offset ≡ 288 + 32 * edge.cell = edge.at in
        let two : passed ≡ 2 =
        slow_at_cell story.events start_cycle start old new was is frame fits idle one next offset edge.cell holds_so goes edge.few at in
        let here : offset + passed ≡ 290 + 32 * edge.cell = omega (arith, at, two) in
        let bound : offset < 290 + 32 * gathered.count = gathered.to in
        let same : gathered.count ≡ edge.cell =
        elim gathered.from [
          | inl none ↦ omega (arith, none, bound, at)
          | inr some ↦ omega (arith, some, bound, at)
        ] in
        let same_fall : fall_at (sample_in next) ≡ record { cycle = start_cycle + (290 + 32 * gathered.count); dat = dat gathered.count } =
        fall_is next gathered.count (subst (λ count. IsThere next count) (omega (arith, here, same)) there) in
        let falls_now : (heard_to story (suc steps)).falls
        ≡ drop (length gathered.earlier + gathered.count - 10) gathered.earlier ++ cell_falls start_cycle dat (suc gathered.count) =
        kept steps one next from to
        ∙ ap (λ falls_here. if falls_here then with_fall (fall_at (sample_in next)) (heard_to story steps).falls
        else (heard_to story steps).falls) falling_is
        ∙ ap (λ fall. with_fall fall (heard_to story steps).falls) same_fall
        ∙ ap (λ fallen. with_fall (record { cycle = start_cycle + (290 + 32 * gathered.count); dat = dat gathered.count }) fallen)
        gathered.falls
        ∙ with_cell start_cycle dat gathered.count gathered.earlier (omega (arith, here, same, most)) in
        record {
          count = suc gathered.count;
          from = inr (omega (arith, here, same));
          to = omega (arith, here, same);
          earlier = drop (length gathered.earlier + gathered.count - 10) gathered.earlier;
          falls = falls_now;
        }
    more_by there gathered most false early_is false falling_is =
        let in_frame : 290 ≤ offset + passed = grind (arith, nat_tests, early_is) in
        let at_most_two : passed ≤ 2 = goes.step.most in
        let bound : offset < 290 + 32 * gathered.count = gathered.to in
        let falls_now : (heard_to story (suc steps)).falls ≡ gathered.earlier ++ cell_falls start_cycle dat gathered.count =
        kept steps one next from to
        ∙ ap (λ falls_here. if falls_here then with_fall (fall_at (sample_in next)) (heard_to story steps).falls
        else (heard_to story steps).falls) falling_is
        ∙ gathered.falls in
        let from_now : (gathered.count ≡ 0) ⊎ (258 + 32 * gathered.count ≤ offset + passed) =
        elim gathered.from [ inl none ↦ inl none | inr some ↦ inr (omega (arith, some)) ] in
        record {
          count = gathered.count;
          from = from_now;
          to = stays gathered.count bound at_most_two (nat_lt (offset + passed) (290 + 32 * gathered.count))
              refl (offset == 288 + 32 * gathered.count) refl;
          earlier = gathered.earlier;
          falls = falls_now;
        }
      where
        stays : (count : ℕ) → offset < 290 + 32 * count → passed ≤ 2 → (beyond : Bool)
            → nat_lt (offset + passed) (290 + 32 * count) ≡ beyond → (at_cell : Bool) → (offset == 288 + 32 * count) ≡ at_cell
            → offset + passed < 290 + 32 * count
        stays count bound two true beyond_is at_cell at_cell_is = grind (arith, nat_tests, beyond_is)
        stays count bound two false beyond_is true at_cell_is =
            let far : 290 + 32 * count ≤ offset + passed = grind (arith, nat_tests, beyond_is) in
            let at : offset ≡ 288 + 32 * count = same_of offset (288 + 32 * count) at_cell_is in
            let fall = falls_at_cell count (omega (arith, far, most, eleven)) at (omega (arith, most)) in
            absurd (let impossible : true ≡ false = sym fall ∙ falling_is in cc)
        stays count bound two false beyond_is false at_cell_is =
            let far : 290 + 32 * count ≤ offset + passed = grind (arith, nat_tests, beyond_is) in
            let at : offset ≡ 289 + 32 * count = grind (arith, nat_tests, at_cell_is, far, bound, two) in
            absurd (holds_so.between count (omega (arith, far, most, eleven)) at)

    -- before a frame's last fall each step adds the falls of its cells to those that are kept
    pub more : Gathered steps offset → offset + passed ≤ 608 → Gathered (suc steps) (offset + passed)
    more gathered most =
        more_by (goes_in story.events start_cycle start old new was is frame fits idle one next offset holds_so goes)
        gathered most (nat_lt (offset + passed) 290) refl
        (is_fall (shown_at story one) (shown_at story next)) refl

    -- at the last cell the sample completes the transfer that the data at the falls are
    pub completes : Gathered steps offset → offset ≡ 608
        → completed (sample_in next) (heard_to story steps) ≡ transfer_in (eleven_of dat)
    completes gathered at =
        let few : 10 < cell_count = omega (arith, eleven) in
        let falling_is = falls_at_cell 10 few (omega (arith, at)) (omega (arith, at)) in
        let two : passed ≡ 2 =
        slow_at_cell story.events start_cycle start old new was is frame fits idle one next
        offset 10 holds_so goes few (omega (arith, at)) in
        let there = goes_in story.events start_cycle start old new was is frame fits idle one next offset holds_so goes in
        let bound : offset < 290 + 32 * gathered.count = gathered.to in
        let ten : gathered.count ≡ 10 =
        elim gathered.from [
          | inl none ↦ omega (arith, none, bound, at)
          | inr some ↦ omega (arith, some, bound, at)
        ] in
        let same_fall : fall_at (sample_in next) ≡ record { cycle = start_cycle + (290 + 32 * 10); dat = dat 10 } =
        fall_is next 10 (subst (λ count. IsThere next count) (omega (arith, at, two)) there) in
        let falls_now : (heard_to story steps).falls ≡ gathered.earlier ++ cell_falls start_cycle dat 10 =
        gathered.falls ∙ ap (λ count. gathered.earlier ++ cell_falls start_cycle dat count) ten in
        let none : drop (length gathered.earlier + 10 - 10) gathered.earlier ≡ [] =
        drop_all (length gathered.earlier + 10 - 10) gathered.earlier (omega arith) in
        ap (λ (levels : Lines). if is_fall levels (shown_at story next)
        then transfer_by (with_fall (fall_at (sample_in next)) (heard_to story steps).falls)
        else None) (last_is story steps one from)
        ∙ ap (λ falls_here. if falls_here then transfer_by (with_fall (fall_at (sample_in next)) (heard_to story steps).falls) else None)
        falling_is
        ∙ ap (λ fall. transfer_by (with_fall fall (heard_to story steps).falls)) same_fall
        ∙ ap (λ fallen. transfer_by (with_fall (record { cycle = start_cycle + (290 + 32 * 10); dat = dat 10 }) fallen)) falls_now
        ∙ ap transfer_by
        (with_cell start_cycle dat 10 gathered.earlier (omega arith) ∙ ap (λ falls. falls ++ cell_falls start_cycle dat 11) none)
        ∙ transfer_is start_cycle dat

  -- at each state of the tick up to the last cell
  gather_by : (more_steps : ℕ) (world : World Beside) → more_steps + first_step ≤ end_step
      → state_at story (more_steps + first_step) ≡ Some world
      → (offset : ℕ) × IsThere world offset × (offset ≤ 608 → Gathered (more_steps + first_step) offset)
  gather_by zero world within at =
      let same_step : 0 + first_step ≡ first_step = omega arith in (
        0,
        same_start story first_step end_step start_cycle start old new was is frame fits idle tick world
            (ap (λ steps. state_at story steps) (sym same_step) ∙ at),
        λ short. none_yet (0 + first_step) 0 (omega arith),
      )
  gather_by (suc more_steps) world within at =
      let same_step : suc more_steps + first_step ≡ suc (more_steps + first_step) = omega arith in
      let here : state_at story (suc (more_steps + first_step)) ≡ Some world = ap (λ steps. state_at story steps) (sym same_step) ∙ at in
      let came = comes_from story (more_steps + first_step) world here in
      let gathered = gather_by more_steps came.before (omega (arith, within)) came.at in
      let goes = tick.goes (more_steps + first_step) came.before world (omega arith) (omega (arith, within)) came.at here in
      let offset : ℕ = gathered.0 in (
        offset + goes.step.count,
        goes_in story.events start_cycle start old new was is frame fits idle came.before world offset gathered.1 goes,
        λ short. subst (λ steps. Gathered steps (offset + goes.step.count)) (sym same_step)
            (more (more_steps + first_step) offset came.before world came.at here gathered.1 goes
            (gathered.2 (omega (arith, short))) short),
      )

  -- so at the last cell the falls of all ten before it are kept
  pub completes_last : (steps : ℕ) (one next : World Beside)
      → first_step ≤ steps → steps < end_step → state_at story steps ≡ Some one → state_at story (suc steps) ≡ Some next
      → IsThere one 608 → Follows one next → completed (sample_in next) (heard_to story steps) ≡ transfer_in (eleven_of dat)
  completes_last steps one next begun not_ended from to holds_so goes =
      let same_step : (steps - first_step) + first_step ≡ steps = omega (arith, begun) in
      let gathered =
      gather_by (steps - first_step) one (omega (arith, begun, not_ended))
      (ap (λ steps_made. state_at story steps_made) same_step ∙ from) in
      let cycle_here : one.cycle ≡ start_cycle + gathered.0 = gathered.1.cycle in
      let cycle_there : one.cycle ≡ start_cycle + 608 = holds_so.cycle in
      let at : gathered.0 ≡ 608 = omega (arith, cycle_here, cycle_there) in
      let falls_gathered : Gathered steps gathered.0 =
      subst (λ steps_made. Gathered steps_made gathered.0) same_step (gathered.2 (omega (arith, at))) in
      completes steps gathered.0 one next from to gathered.1 goes falls_gathered at
