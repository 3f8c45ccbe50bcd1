-- Port 1 in a tick: the columns one after another, and then none up to the next start's first.
use Rattle.std.proofs.Common.{◌≡◌, ◌≤◌, ◌<◌, ℕ, suc, ◌+◌, ◌-◌, List, Bool, true, false, leb, nat_lt}
use Rattle.std.proofs.Common.{Some, drop, refl, ap, sym, ◌∙◌, subst, arith, inl}
use Rattle.std.proofs.lemmas.Bool.Decides.{nat_tests}
use Rattle.mcs48_core.specs.Cpu.{Cpu}
use Rattle.fw_kernel.specs.declared.labels.TheConstants.{TICK, OFFER}
use Rattle.fw_kernel.specs.Places.{HasKernel}
use Rattle.joint_run.specs.Run.{Board, World, joint_step}
use Rattle.joint_run.specs.Starts.{at_tick, calm}
use Rattle.law_fw_logic.specs.Selecting.{column_latch, Selects}
use Rattle.law_fw_logic.proofs.Between.{IsStart, Working, After, same_next, later_on, along, after_on, after_column, at_offer}
use Rattle.law_fw_logic.proofs.Between.{begins_work, first_of}
use Rattle.law_fw_logic.proofs.BlockLaws.{cells_of}
use Rattle.law_fw_logic.proofs.Chain.{calm_add}
use Rattle.law_fw_logic.proofs.Entered.{IsServed, entering_is}
use Rattle.law_fw_logic.proofs.Kernel.{kernel_in}
use Rattle.law_fw_logic.proofs.Passing.{Passes}
use Rattle.law_fw_logic.proofs.Path.{Stage, world_at}
use Rattle.law_fw_logic.proofs.Selecting.{Shown, Traced, Observed, shown, traced}
use Rattle.law_fw_logic.proofs.Serves.{second, first_step}
use Rattle.law_fw_logic.proofs.Service.{entering}
use Rattle.law_fw_logic.proofs.Short.{has_rows}
use Rattle.law_fw_logic.proofs.Timers.{TimerState, timer_of}
use Rattle.law_fw_logic.proofs.Turns.{IsServing}

early : (old o : ℕ) → o < 10 → column_latch old o ≡ old
early old o l = let e : nat_lt o 10 ≡ true = grind (arith, nat_tests, l) in rw e refl

afterwards : (old o : ℕ) → 201 ≤ o → column_latch old o ≡ 44
afterwards old o l =
    let a : nat_lt o 10 ≡ false = grind (arith, nat_tests, l) in
    let b : nat_lt o 201 ≡ false = grind (arith, nat_tests, l) in
    rw (a, b) refl

module _ (d : Board) (bytes : List ℕ) (has : HasKernel bytes) (x : ℕ) (b : TimerState)
    (f : ℕ → ℕ) (ring : List ℕ) (m : Cpu) (board : d.State) where
  abbrev start : World d.State
  start = record { cpu = entering b f ring m; board = board; cycle = x }

  abbrev latch : ℕ → ℕ
  latch = column_latch m.p1

  abbrev two : Stage d.State
  two = second d bytes has x b (d.pins m.p1 m.p2 x board).t1 f ring m board

  -- up to the last column
  abbrev Swept : Stage d.State → Type 0
  Swept e = (e.cpu.pc ≡ OFFER) × (e.cpu.p1 ≡ 44) × (e.off ≡ 208)

  sweep : Shown d (kernel_in false bytes) refl (has_rows false bytes has) x latch 5 two
      (λ s. Traced d (kernel_in false bytes) refl (has_rows false bytes has) x latch 161 s true Swept)
  sweep = (refl, refl, (refl, refl, (refl, refl, (refl, refl, (refl, refl, (refl, (refl, refl, refl)))))))

  swept : Observed d (kernel_in false bytes) refl (has_rows false bytes has) x latch two Swept
  swept =
      shown d (kernel_in false bytes) refl (has_rows false bytes has) x latch 5
      (λ s. Traced d (kernel_in false bytes) refl (has_rows false bytes has) x latch 161 s true Swept) Swept two (inl refl)
      (λ s free h. (traced d (kernel_in false bytes) refl (has_rows false bytes has) x latch 161 s true Swept free h).1)
      sweep

  -- with the way through the tick
  module _ (p : Passes d bytes start) where
    abbrev begin : World d.State
    begin = world_at x two

    first_is : p.first ≡ begin
    first_is =
        same_next d bytes start p.first begin p.step (first_step d bytes has x b f ring m board)

    -- the service has begun
    serving : IsServing m.clk start.cpu
    serving = record { place = refl; stays = refl }

    begins : Working d bytes has m.clk begin
    begins =
        subst (λ v. Working d bytes has m.clk v) first_is (begins_work d bytes has m.clk start serving refl p)

    abbrev end : World d.State
    end = world_at x swept.end

    after : After d bytes has m.clk end
    after =
        at_offer d bytes has m.clk begin end swept.steps begins swept.run swept.goal.0 swept.goal.1

    -- a run of more steps goes on from there
    goes_on : (k : ℕ) (e : World d.State) → swept.steps ≤ k → calm d TICK bytes k begin ≡ Some e
        → calm d TICK bytes (k - swept.steps) end ≡ Some e
    goes_on k e more run =
        let sum : swept.steps + (k - swept.steps) ≡ k = omega (arith, more) in
        sym (calm_add d (kernel_in false bytes) (has_rows false bytes has) x swept.steps (k - swept.steps) begin end
        swept.run)
        ∙ ap (λ i. calm d TICK bytes i begin) sum ∙ run

    column : (k c : ℕ) (one next : World d.State) → calm d TICK bytes k begin ≡ Some one → at_tick d TICK one ≡ false
        → joint_step d bytes one ≡ Some next → one.cycle ≤ c → c < next.cycle → next.cpu.p1 ≡ latch (c - x)
    column k c one next run off step a l = by (leb swept.steps k) refl
      where
        by : (b : Bool) → leb swept.steps k ≡ b → next.cpu.p1 ≡ latch (c - x)
        by false h = swept.each k one (grind (arith, nat_tests, h)) run c next step a l
        by true h =
            let rest = goes_on k one (grind (arith, nat_tests, h)) run in
            let n : ℕ = k - swept.steps in
            let there = along d bytes has m.clk (After d bytes has m.clk) (after_on d bytes has m.clk) n end one after rest in
            let after_it = after_on d bytes has m.clk one next there off step in
            let late : x + swept.end.off ≤ one.cycle = later_on d bytes n end one rest in
            let off : swept.end.off ≡ 208 = swept.goal.2 in
            after_column d bytes has m.clk next after_it ∙ sym (afterwards m.p1 (c - x) (omega (arith, late, off, a)))

    -- from a tick start up to the next one port 1 selects the columns one after another, and then none
    pub selects : Selects d TICK bytes start (λ c. column_latch m.p1 (c - x))
    selects = record {
      at = refl;
      first = begin;
      step = first_step d bytes has x b f ring m board;
      put = λ c a l. sym (early m.p1 (c - x) (omega (arith, a, l)));
      latches = column;
    }

    -- at the next start it selects none
    pub next_column : (k : ℕ) (first e : World d.State) → joint_step d bytes start ≡ Some first
        → calm d TICK bytes k first ≡ Some e → IsStart d bytes e → e.cpu.p1 ≡ 44
    next_column k first e step run at = by (leb swept.steps k) refl
      where
        from_begin : calm d TICK bytes k begin ≡ Some e
        from_begin =
            ap (calm d TICK bytes k)
            (same_next d bytes start begin first (first_step d bytes has x b f ring m board) step)
            ∙ run

        by : (b : Bool) → leb swept.steps k ≡ b → e.cpu.p1 ≡ 44
        by true h =
            let rest = goes_on k e (grind (arith, nat_tests, h)) from_begin in
            after_column d bytes has m.clk e
            (along d bytes has m.clk (After d bytes has m.clk) (after_on d bytes has m.clk) (k - swept.steps) end e after
            rest)
        by false h =
            let less : k < swept.steps = grind (arith, nat_tests, h) in
            let sum : k + suc (swept.steps - k - 1) ≡ swept.steps = omega (arith, less) in
            let n : ℕ = swept.steps - k - 1 in
            let rest : calm d TICK bytes (suc n) e ≡ Some end =
            sym (calm_add d (kernel_in false bytes) (has_rows false bytes has) x k (suc n) begin e from_begin)
            ∙ ap (λ i. calm d TICK bytes i begin) sum ∙ swept.run in
            let off = (first_of d bytes n e end rest).calm_here in
            let both : true ≡ false = sym at ∙ off in
            absurd cc

-- from any tick start
module _ (d : Board) (bytes : List ℕ) (has : HasKernel bytes) (w : World d.State) (s : IsServed w.cpu)
    (p : Passes d bytes w) where
  abbrev cells : ℕ → ℕ
  cells = cells_of w.cpu.ram

  abbrev rest : List ℕ
  rest = drop 112 w.cpu.ram

  abbrev as_begun : World d.State
  as_begun = start d bytes has w.cycle (timer_of w.cpu) cells rest w.cpu w.board

  same : w ≡ as_begun
  same = ap (λ c. record { cpu = c; board = w.board; cycle = w.cycle }) (entering_is w.cpu s)

  passes_begun : Passes d bytes as_begun
  passes_begun = subst (λ u. Passes d bytes u) same p

  -- from any tick start up to the next one port 1 selects the columns one after another, and then none
  pub selects_from : Selects d TICK bytes w (λ c. column_latch w.cpu.p1 (c - w.cycle))
  selects_from =
      subst (λ u. Selects d TICK bytes u (λ c. column_latch w.cpu.p1 (c - w.cycle))) (sym same)
      (selects d bytes has w.cycle (timer_of w.cpu) cells rest w.cpu w.board passes_begun)

  -- at the next tick start port 1 selects no column
  pub column_from : (k : ℕ) (first e : World d.State) → joint_step d bytes w ≡ Some first
      → calm d TICK bytes k first ≡ Some e → IsStart d bytes e → e.cpu.p1 ≡ 44
  column_from k first e step run at =
      next_column d bytes has w.cycle (timer_of w.cpu) cells rest w.cpu w.board passes_begun k
      first e (subst (λ u. joint_step d bytes u ≡ Some first) same step) run at
