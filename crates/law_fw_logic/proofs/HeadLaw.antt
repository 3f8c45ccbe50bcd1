-- The tick's head at any working processor: the timer is written, and counts on.
use Rattle.std.proofs.Common.{◌≡◌, ◌≤◌, ◌<◌, ℕ, ◌+◌, ◌*◌, List, [], ◌∷◌, Bool, true, false, not, ◌&&◌, ◌||◌}
use Rattle.std.proofs.Common.{◌==◌, nat_le, Some}
use Rattle.std.proofs.Common.{length, drop, slice_index, refl, ap, sym, ◌∙◌, subst, arith}
use Rattle.std.proofs.lemmas.Bool.Decides.{nat_tests}
use Rattle.mcs48_isa.specs.declared.operation.Op.TheVariants.{Moves}
use Rattle.mcs48_isa.specs.declared.operation.MoveOp.TheVariants.{MovAN}
use Rattle.mcs48_core.specs.declared.levels.Pins.{Pins}
use Rattle.mcs48_core.specs.declared.processor.Count.TheVariants.{Timer}
use Rattle.mcs48_core.specs.Cpu.{Cpu}
use Rattle.mcs48_core.specs.Timer.{after_timer}
use Rattle.mcs48_core.specs.Step.{takes_timer}
use Rattle.fw_kernel.specs.declared.cells.TheConstants.{R0, R1, R3}
use Rattle.fw_kernel.specs.declared.labels.TheConstants.{TICK, READ}
use Rattle.fw_kernel.specs.Places.{HasKernel}
use Rattle.joint_run.specs.Run.{Board, World, after_cycles, seen, joint_step, after_step}
use Rattle.joint_run.specs.Starts.{at_tick, Comes, Tick}
use Rattle.law_fw_logic.specs.Blocks.{IsAt, is_counting, Heads}
use Rattle.law_fw_logic.proofs.TimerParts.{IsFree, IsTiming, timer_parts}
use Rattle.law_fw_logic.proofs.Path.{Stage, Run, world_at}
use Rattle.law_fw_logic.proofs.Leads.{Leads}
use Rattle.law_fw_logic.proofs.Kernel.{kernel_in}
use Rattle.law_fw_logic.proofs.Block.{memory, scratched, At}
use Rattle.law_fw_logic.proofs.Blocks.{from_stage, joined}
use Rattle.law_fw_logic.proofs.Memory.{memory_is}
use Rattle.law_fw_logic.proofs.Cells.{cells_long}
use Rattle.law_fw_logic.proofs.Chain.{not_external, not_timer}
use Rattle.law_fw_logic.proofs.Sound.{sound, stepped_is, ticks_from}
use Rattle.law_fw_logic.proofs.Laws.{comes_then}
use Rattle.law_fw_logic.proofs.Short.{has_rows}
use Rattle.law_fw_logic.proofs.Columns.{ready, head}
use Rattle.law_fw_logic.proofs.BlockLaws.{cells_of, others_are}

-- a step in which the prescaler counts on and T doesn't
timer_on : (c : ℕ) (k : Cpu) (pins : Pins) → nat_le 32 (k.pre + c) ≡ false
    → after_timer Timer c pins (record k { run = Timer }) ≡ record k { run = Timer; pre = k.pre + c; last_t1 = pins.t1 }
timer_on c k pins e = rw e refl

ready_others : (f : ℕ → ℕ) (i : ℕ) → is_counting i ≡ false → ready f i ≡ f i
ready_others f i out = by (i == R0) (i == R1) (i == R3) refl refl refl out
  where
    by : (a b c : Bool) → (i == R0) ≡ a → (i == R1) ≡ b → (i == R3) ≡ c → (a || b || c) ≡ false → ready f i ≡ f i
    by false false false ea eb ec h = rw (ea, eb, ec) refl
    by true b c ea eb ec h = absurd cc
    by false true c ea eb ec h = absurd cc
    by false false true ea eb ec h = absurd cc

module _ (d : Board) (bytes : List ℕ) (has : HasKernel bytes) (x : ℕ) (k : Cpu) (free : IsFree k) (few : k.pre ≤ 15)
    (f : ℕ → ℕ) (ring : List ℕ) (size : length (memory f ring) ≡ 128) (board : d.State) where
  -- at the tick's instruction, with a running timer
  abbrev at_cpu : Cpu
  at_cpu = record k { pc = TICK; rb = true; mb = false; ram = memory f ring; run = Timer }

  abbrev start : World d.State
  start = record { cpu = at_cpu; board = board; cycle = x }

  abbrev second : Bool → Stage d.State
  second last =
      record {
        cpu = record at_cpu { pc = TICK + 2; a = 192; pre = k.pre + 2; last_t1 = last };
        board = after_cycles 2 x (d.cycle k.p2) board;
        off = 2;
      }

  abbrev third : Bool → Cpu
  third last = record at_cpu { pc = TICK + 3; a = 192; t = 192; pre = k.pre + 2 + 1; last_t1 = last }

  is_start : at_tick d TICK start ≡ true
  is_start =
      ap (λ b. not b && not (takes_timer at_cpu)) (not_external (seen d start) at_cpu free)
      ∙ ap (λ b. not b) (not_timer at_cpu free)

  steps : joint_step d bytes start ≡ Some (world_at x (second (seen d start).t1))
  steps =
      let pins = seen d start in
      let e : nat_le 32 (k.pre + 2) ≡ false = grind (arith, nat_tests, few) in
      ap (λ o. after_step d start o)
      (stepped_is bytes pins at_cpu (record { op = Moves (MovAN 192); len = 2; cycles = 2 }) free
      (has_rows true bytes has TICK (record { op = Moves (MovAN 192); len = 2; cycles = 2 }) refl).0)
      ∙ ap (λ c. after_step d start (Some (record { cpu = c; cycles = 2 })))
      (timer_on 2 (record at_cpu { pc = TICK + 2; a = 192 }) pins e)

  abbrev IsSet : Stage d.State → Type 0
  IsSet e = (last : Bool) × (e.cpu ≡ third last) × (e.off ≡ 3)
      × (e.board ≡ after_cycles 1 2 (λ o. d.cycle k.p2 (x + o)) (after_cycles 2 x (d.cycle k.p2) board))

  sets : (last : Bool) → Leads d (kernel_in false bytes) x (second last) IsSet
  sets last =
      let s : Stage d.State = second last in
      let pins : Pins = d.pins k.p1 k.p2 (x + 2) s.board in
      let e : nat_le 32 (k.pre + 2 + 1) ≡ false = grind (arith, nat_tests, few) in
      let Q : Stage d.State → Type 0 = λ e. (e.cpu ≡ after_timer Timer 1 pins (record s.cpu { pc = TICK + 3; t = 192 }))
      × (e.off ≡ 3)
      × (e.board ≡ after_cycles 1 2 (λ o. d.cycle k.p2 (x + o)) (after_cycles 2 x (d.cycle k.p2) board)) in
      let h = sound d (kernel_in false bytes) (has_rows false bytes has) x (Run 1 ∷ []) Q s (refl, refl, refl) free in
      record {
        steps = h.steps;
        end = h.end;
        run = h.run;
        goal = (pins.t1, h.goal.0 ∙ timer_on 1 (record s.cpu { pc = TICK + 3; t = 192 }) pins e, h.goal.1, h.goal.2);
        each = h.each;
        free = h.free;
        order = h.order;
        timer_later = h.timer_later;
        over = h.over;
      }

  -- the rest of the head, which leaves the timer alone
  abbrev at_third : Bool → Stage d.State
  at_third last = record { cpu = third last; board = after_cycles 3 x (d.cycle k.p2) board; off = 3 }

  abbrev IsHeaded : Bool → Stage d.State → Type 0
  IsHeaded last e =
      (e.cpu ≡ scratched (record (third last) { p1 = 32 }) READ (memory (ready f) ring) e.cpu) × (e.off ≡ 16)
      × (e.board ≡ after_cycles 16 x (d.cycle k.p2) board)

  headed : (last : Bool) → Leads d (kernel_in true bytes) x (at_third last) (IsHeaded last)
  headed last =
      let b : d.State = after_cycles 3 x (d.cycle k.p2) board in
      from_stage d (kernel_in true bytes) (has_rows true bytes has) x 10 (third last) f ring (at_third last)
      (At d (record (third last) { p1 = 32 }) READ (ready f) ring 13 (after_cycles 13 (x + 3) (d.cycle k.p2) b)) (IsHeaded last)
      refl
      (λ e h. (h.cpu, ap (λ o. 3 + o) h.off, h.now ∙ joined 3 13 x (x + 3) (d.cycle k.p2) board refl))
      (head d bytes has (x + 3) (third last) f ring b free)

  -- what it all leaves
  heads : (last : Bool) → (e : Stage d.State) → IsHeaded last e → IsFree e.cpu
      → (e.cpu.t ≡ 192) × (e.cpu.pre ≡ k.pre + 16)
      → Heads d start (world_at x e)
  heads last e h free timer =
      let now : e.cpu.ram ≡ memory (ready f) ring = ap (λ (c : Cpu). c.ram) h.0 in
      record {
        to = record {
          pc = ap (λ (c : Cpu). c.pc) h.0;
          bank = ap (λ (c : Cpu). c.rb) h.0;
          lower = ap (λ (c : Cpu). c.mb) h.0;
          free = free;
          memory = long now;
        };
        cycle = ap (λ o. x + o) h.1;
        board = h.2;
        t = timer.0;
        pre = timer.1;
        column = ap (λ (c : Cpu). c.p1) h.0;
        p2 = ap (λ (c : Cpu). c.p2) h.0;
        f1 = ap (λ (c : Cpu). c.f1) h.0;
        r0 = ap (λ r. slice_index r R0) now;
        r1 = ap (λ r. slice_index r R1) now;
        r3 = ap (λ r. slice_index r R3) now;
        others = λ i out.
            ap (λ r. slice_index r i) now ∙ others_are f (ready f) ring is_counting (λ j l n. ready_others f j n) i out;
      }
    where
      long : e.cpu.ram ≡ memory (ready f) ring → length e.cpu.ram ≡ 128
      long now = ap length now ∙ cells_long (ready f) f ring ∙ size

  -- from a tick start the head writes the timer and selects the first column, in 16 cycles
  pub from_start : Tick d TICK bytes start (Heads d start)
  from_start =
      let two = second (seen d start).t1 in
      let f3 = d.cycle k.p2 in
      let set = sets (seen d start).t1 in
      let e = set.end in
      let g = set.goal in
      let last = g.0 in
      let same : world_at x e ≡ world_at x (at_third last) =
      ap (λ c. world_at x (record { cpu = c; board = e.board; off = e.off })) g.1
      ∙ ap (λ o. world_at x (record { cpu = third last; board = e.board; off = o })) g.2
      ∙ ap (λ b. world_at x (record { cpu = third last; board = b; off = 3 }))
      (g.3 ∙ sym (ticks_from 1 2 x f3 (after_cycles 2 x f3 board)) ∙ joined 2 1 x (x + 2) f3 board refl) in
      let h = headed last in
      let v = h.end in
      let off : v.off ≡ 16 = h.goal.1 in
      let timing : IsTiming (timer_parts (third last)) =
      record { run = refl; pre = omega (arith, few); t = omega arith } in
      let timer_later = h.timer_later refl timing (omega (arith, few, off)) in
      let count : 32 * v.cpu.t + v.cpu.pre + 3 ≡ 32 * 192 + (k.pre + 2 + 1) + v.off = timer_later.count in
      let pre : v.cpu.pre < 32 = timer_later.timing.pre in
      let t : v.cpu.t ≡ 192 = omega (arith, count, off, pre, few) in
      let counted : v.cpu.pre ≡ k.pre + 16 = omega (arith, count, off, t) in
      record {
        at = is_start;
        first = world_at x two;
        step = steps;
        rest =
            comes_then d TICK bytes (λ w. w ≡ world_at x e) (Heads d start) (world_at x two)
            (record { steps = set.steps; end = world_at x e; run = set.run; goal = refl })
            (λ w is.
            subst (λ u. Comes d TICK bytes u (Heads d start)) (sym (is ∙ same))
            (record {
              steps = h.steps;
              end = world_at x v;
              run = h.run;
              goal = heads last v h.goal h.free (t, counted);
            }));
      }

-- from a state of the run
pub head_law : (d : Board) (bytes : List ℕ) → HasKernel bytes → (w : World d.State) → IsAt TICK w.cpu
    → w.cpu.run ≡ Timer
    → w.cpu.pre ≤ 15 → Tick d TICK bytes w (Heads d w)
head_law d bytes has w is run few =
    let m = w.cpu in
    let f = cells_of m.ram in
    let ring = drop 112 m.ram in
    let ram : m.ram ≡ memory f ring = memory_is m.ram is.memory in
    let same : m ≡ record m { pc = TICK; rb = true; mb = false; ram = memory f ring; run = Timer } =
    ap (λ v. record m { pc = v }) is.pc ∙ ap (λ v. record m { pc = TICK; rb = v }) is.bank
    ∙ ap (λ v. record m { pc = TICK; rb = true; mb = v }) is.lower
    ∙ ap (λ v. record m { pc = TICK; rb = true; mb = false; ram = v }) ram
    ∙ ap (λ v. record m { pc = TICK; rb = true; mb = false; ram = memory f ring; run = v }) run in
    subst (λ c. Tick d TICK bytes (record { cpu = c; board = w.board; cycle = w.cycle })
    (Heads d (record { cpu = c; board = w.board; cycle = w.cycle }))) (sym same)
    (from_start d bytes has w.cycle m is.free few f ring (sym (ap length ram) ∙ is.memory) w.board)
