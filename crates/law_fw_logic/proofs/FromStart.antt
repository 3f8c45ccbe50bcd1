-- From a tick start: the columns at their offsets, and from the work's end the next start.
use Rattle.std.proofs.Common.{◌≡◌, ◌≤◌, ◌<◌, ℕ, ◌+◌, ◌-◌, ◌*◌, Bool, true, false, ◌&&◌, ◌||◌, ◌==◌, nat_le, nat_lt}
use Rattle.std.proofs.Common.{List, length, drop, slice_index, bit_xor, inl, inr, refl, ap, sym, ◌∙◌, subst, arith}
use Rattle.std.proofs.lemmas.Bool.Decides.{nat_tests}
use Rattle.mcs48_core.specs.Cpu.{Cpu}
use Rattle.fw_kernel.specs.declared.cells.TheConstants.{R0, R1, R3, HELD, CHANGED}
use Rattle.fw_kernel.specs.declared.labels.TheConstants.{TICK, WAIT, DONE}
use Rattle.fw_kernel.specs.Places.{HasKernel}
use Rattle.joint_run.specs.Run.{Board, World, after_cycles}
use Rattle.joint_run.specs.Starts.{Comes, Tick}
use Rattle.law_fw_logic.specs.Blocks.{IsAt, is_counting, is_read, Heads, ReadsColumns}
use Rattle.law_fw_logic.specs.Boards.{numbered}
use Rattle.law_fw_logic.specs.Scan.{in_tick, downs}
use Rattle.law_fw_logic.specs.Ticks.{IsEntered, IsDone, IsNext, ReadsTick, ReadingLaw, NextLaw, column_read}
use Rattle.law_fw_logic.proofs.Block.{memory}
use Rattle.law_fw_logic.proofs.BlockLaws.{cells_of, columns_law}
use Rattle.law_fw_logic.proofs.Blocks.{joined}
use Rattle.law_fw_logic.proofs.Cells.{cell}
use Rattle.law_fw_logic.proofs.TimerParts.{IsTiming, timer_parts}
use Rattle.law_fw_logic.proofs.Entered.{way_back, entered_is}
use Rattle.law_fw_logic.proofs.HeadLaw.{head_law}
use Rattle.law_fw_logic.proofs.Laws.{comes_then, comes_as}
use Rattle.law_fw_logic.proofs.Memory.{memory_is}
use Rattle.law_fw_logic.proofs.Path.{Stage, world_at}
use Rattle.law_fw_logic.proofs.Returning.{IsOver, IsTimed, Next, ends}
use Rattle.law_fw_logic.proofs.Service.{serving, stacked, begun, entering}
use Rattle.law_fw_logic.proofs.Timers.{TimerState, on_time}

-- what the reading leaves alone the head does, too
counting_out : (i : ℕ) → is_read i ≡ false → is_counting i ≡ false
counting_out i out = by (i == R0) (i == R1) (i == R3) (nat_le HELD i && nat_lt i (HELD + 12)) (nat_le CHANGED i
    && nat_lt i (CHANGED + 12)) out
  where
    by : (a b c p q : Bool) → (a || b || c || p || q) ≡ false → (a || b || c) ≡ false
    by false false false p q h = refl
    by true b c p q h = absurd cc
    by false true c p q h = absurd cc
    by false false true p q h = absurd cc

held_out : (c : ℕ) → is_counting (HELD + c) ≡ false
held_out c =
    let e0 : (HELD + c == R0) ≡ false = grind (arith, nat_tests) in
    let e1 : (HELD + c == R1) ≡ false = grind (arith, nat_tests) in
    let e3 : (HELD + c == R3) ≡ false = grind (arith, nat_tests) in
    rw (e0, e1, e3) refl

module _ (d : Board) (bytes : List ℕ) (has : HasKernel bytes) (w : World d.State) (s : IsEntered w.cpu) where
  abbrev x : ℕ
  x = w.cycle

  abbrev f : ℕ → d.State → d.State
  f = d.cycle w.cpu.p2

  -- the columns, after the head
  reads_so : (v e : World d.State) → Heads d w v → ReadsColumns d v e → ReadsTick d w e
  reads_so v e h r =
      let cycle : v.cycle ≡ x + 16 = h.cycle in
      let later : e.cycle ≡ v.cycle + 192 = r.cycle in
      let held : (c : ℕ) → c < 12 → slice_index e.cpu.ram (HELD + c) ≡ column_read d w c = λ c l.
      let at : v.cycle + 16 * c ≡ x + (16 + 16 * c) = omega (arith, cycle) in
      r.held c l ∙ ap (λ p. downs d v.cycle p v.board c) h.p2 ∙ ap (λ b. downs d v.cycle w.cpu.p2 b c) h.board
      ∙ ap (λ b. 255 - (d.pins (32 + c) w.cpu.p2 (v.cycle + 16 * c) b).bus) (joined 16 (16 * c) x v.cycle f w.board cycle)
      ∙ ap (λ k. 255 - (d.pins (32 + c) w.cpu.p2 k (in_tick d w (16 + 16 * c))).bus) at in
      record {
        to = r.to;
        cycle = omega (arith, cycle, later);
        board =
            r.board ∙ ap (λ p. after_cycles 192 v.cycle (d.cycle p) v.board) h.p2 ∙ ap (λ b. after_cycles 192 v.cycle f b) h.board
            ∙ joined 16 192 x v.cycle f w.board cycle;
        p2 = r.p2 ∙ h.p2;
        held = held;
        changed = λ c l.
            r.changed c l
            ∙ ap (λ b. bit_xor b (slice_index e.cpu.ram (HELD + c))) (h.others (HELD + c) (held_out c))
            ∙ ap (λ b. bit_xor (slice_index w.cpu.ram (HELD + c)) b) (held c l);
        others = λ i out. r.others i out ∙ h.others i (counting_out i out);
      }

  -- from a tick start the columns are read at their offsets
  pub reads : Tick d TICK bytes w (ReadsTick d w)
  reads =
      let late : w.cpu.pre ≤ 3 = s.late in
      let at : IsAt TICK w.cpu =
      record { pc = s.pc; bank = s.bank; lower = s.lower; free = inl s.serves; memory = s.memory } in
      let t = head_law d bytes has w at s.run (omega (arith, late)) in
      record {
        at = t.at;
        first = t.first;
        step = t.step;
        rest =
            comes_then d TICK bytes (Heads d w) (ReadsTick d w) t.first t.rest
            (λ v h.
            comes_as d TICK bytes (ReadsColumns d v) (ReadsTick d w) v (λ e r. reads_so v e h r)
            (columns_law d bytes has v h.to h.r0 h.r1 h.r3 h.column));
      }

  -- the work's end
  module _ (e : World d.State) (done : IsDone w e) where
    abbrev now : ℕ → ℕ
    now = cells_of e.cpu.ram

    abbrev ring : List ℕ
    ring = drop 112 e.cpu.ram

    -- as a stage of the tick
    abbrev end : Stage d.State
    end = record { cpu = e.cpu; board = e.board; off = e.cycle - x }

    there : x + (e.cycle - x) ≡ e.cycle
    there = let l : x ≤ e.cycle = done.afterwards in omega (arith, l)

    ram_is : e.cpu.ram ≡ memory now ring
    ram_is = memory_is e.cpu.ram done.memory

    serving_is : e.cpu ≡ serving DONE now ring e.cpu
    serving_is =
        let m : Cpu = e.cpu in
        ap (λ v. record m { pc = v }) done.pc
        ∙ ap (λ v. record m { pc = DONE; rb = v }) done.bank
        ∙ ap (λ v. record m { pc = DONE; rb = true; sp = v }) done.depth
        ∙ ap (λ v. record m { pc = DONE; rb = true; sp = 1; mb = v }) done.lower
        ∙ ap (λ v. record m { pc = DONE; rb = true; sp = 1; mb = false; ext_on = v }) done.external
        ∙ ap (λ v. record m { pc = DONE; rb = true; sp = 1; mb = false; ext_on = false; tim_on = v }) done.enabled
        ∙ ap (λ v. record m { pc = DONE; rb = true; sp = 1; mb = false; ext_on = false; tim_on = true; svc = v })
        done.serves
        ∙ ap (λ v. record m {
          pc = DONE;
          rb = true;
          sp = 1;
          mb = false;
          ext_on = false;
          tim_on = true;
          svc = true;
          ram = v;
        }) ram_is

    -- what is carried to the next start
    abbrev Kept : (ℕ → ℕ) → List ℕ → Stage d.State → Type 0
    Kept g r s = (memory g r ≡ e.cpu.ram) × (s ≡ end)

    abbrev timer : TimerState
    timer = on_time (w.cpu.pre - 2) w.cpu.tf w.cpu.last_t1

    next_so : (v : World d.State) → Next d x timer 2040 Kept v → IsNext d w e v
    next_so v n =
        let g : ℕ → ℕ = n.now in
        let r : List ℕ = n.ring in
        let z : Stage d.State = n.end in
        let same : z ≡ end = n.does.1 in
        let ram : memory g r ≡ e.cpu.ram = n.does.0 in
        let late : w.cpu.pre ≤ 3 = s.late in
        let p = n.prompt (w.cpu.pre - 2) (omega (arith, late)) refl (omega arith) in
        let B : Cpu = begun p.late' n.timer.tf n.timer.last g r z.cpu in
        let cpu : v.cpu ≡ B = ap (λ (u : World d.State). u.cpu) n.is ∙ ap (λ b. entering b g r z.cpu) p.timer' in
        let back : g 8 ≡ WAIT = sym (cell g r 8 (omega arith)) ∙ ap (λ m. slice_index m 8) ram ∙ done.back in
        let status : g 9 ≡ 16 = sym (cell g r 9 (omega arith)) ∙ ap (λ m. slice_index m 9) ram ∙ done.status in
        let stack : memory g r ≡ memory (stacked g) r = way_back g r back status in
        let off : z.off ≡ e.cycle - x = ap (λ (s : Stage d.State). s.off) same in
        let cycle : v.cycle ≡ x + z.off + n.waited = ap (λ (u : World d.State). u.cycle) n.is in
        let time : z.off + n.waited + (w.cpu.pre - 2) ≡ 2048 + p.late' = p.time in
        let pre : v.cpu.pre ≡ p.late' + 2 = ap (λ (c : Cpu). c.pre) cpu in
        let early : 2 ≤ w.cpu.pre = s.early in
        let most : p.late' ≤ 1 = p.most in
        let afterwards : x ≤ e.cycle = done.afterwards in
        let on : v.cycle + w.cpu.pre ≡ x + 2048 + v.cpu.pre = omega (arith, cycle, time, pre, early) in
        let entered : IsEntered v.cpu =
        subst (λ c. IsEntered c) (sym cpu)
        (entered_is p.late' most n.timer.tf n.timer.last g r z.cpu (ap length (sym stack ∙ ram) ∙ done.memory)) in
        record {
          entered = entered;
          time = on;
          cadence = λ k is.
              let now : x + 2 ≡ 4096 + 2048 * k + w.cpu.pre = is in (
                omega (arith, on, now),
                record { least = omega (arith, on, now, pre); most = omega (arith, on, now, pre, most) },
              );
          memory = ap (λ (c : Cpu). c.ram) cpu ∙ sym stack ∙ ram;
          p1 = ap (λ (c : Cpu). c.p1) cpu ∙ ap (λ (s : Stage d.State). s.cpu.p1) same;
          p2 = ap (λ (c : Cpu). c.p2) cpu ∙ ap (λ (s : Stage d.State). s.cpu.p2) same;
          board = λ k at.
              let waited : n.waited ≡ k = omega (arith, at, cycle, off, afterwards) in
              ap (λ (u : World d.State). u.board) n.is
              ∙ ap (λ (s : Stage d.State). after_cycles n.waited (x + s.off) (d.cycle s.cpu.p2) s.board) same
              ∙ ap (λ c. after_cycles n.waited c (d.cycle e.cpu.p2) e.board) there
              ∙ ap (λ j. after_cycles j e.cycle (d.cycle e.cpu.p2) e.board) waited;
        }

    -- from the end of a tick's work the next tick start comes
    pub next : Comes d TICK bytes e (IsNext d w e)
    next =
        let early : 2 ≤ w.cpu.pre = s.early in
        let afterwards : x ≤ e.cycle = done.afterwards in
        let in_time : e.cycle ≤ x + 2040 = done.in_time in
        let counted : 32 * e.cpu.t + e.cpu.pre + x ≡ 32 * 192 + w.cpu.pre + e.cycle = done.counted in
        let over : IsOver d 2040 Kept end = record {
          now = now;
          ring = ring;
          cpu = serving_is;
          low = done.back;
          high = done.status;
          short = omega (arith, afterwards, in_time);
          does = (sym ram_is, refl);
        } in
        let timing : IsTiming (timer_parts e.cpu) = record { run = done.run; pre = done.pre; t = done.t } in
        let timed : IsTimed timer 2040 (e.cycle - x) e.cpu = record {
          timing = timing;
          asks = inr (done.clear, omega (arith, counted, early, afterwards));
          punctual = λ l few is room.
              let pre : w.cpu.pre - 2 + 2 ≡ l + 2 = ap (λ (b : TimerState). b.pre) is in
              (done.clear, omega (arith, counted, early, afterwards, pre));
          counted = λ rest. record {
            first = 6147 + w.cpu.pre;
            least = omega arith;
            most = (let late : w.cpu.pre ≤ 3 = s.late in omega (arith, late));
            overflows = 0;
            count = omega (arith, counted, afterwards);
            none = λ e. done.clear;
          };
        } in
        let same : world_at x end ≡ e = ap (λ c. record { cpu = e.cpu; board = e.board; cycle = c }) there in
        subst (λ u. Comes d TICK bytes u (IsNext d w e)) same
        (comes_as d TICK bytes (Next d x timer 2040 Kept) (IsNext d w e) (world_at x end) next_so
        (ends d bytes has x timer 2040 Kept end over timed))

-- from each tick start the columns are read at their offsets, in every image that has the kernel
pub reading_law : ReadingLaw
reading_law bytes has pins tick w s = reads (numbered pins tick) bytes has w s

-- if the work of a tick ends in time, the next tick start comes
pub next_law : NextLaw
next_law bytes has pins tick w e s done = next (numbered pins tick) bytes has w s e done
