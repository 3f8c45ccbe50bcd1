-- The interrupt's entry and the service's end: from the end of a tick's work to the next tick start.
use Rattle.std.proofs.Common.{◌≡◌, ◌≤◌, ◌<◌, ℕ, ◌+◌, ◌*◌, ◌%◌, List, Bool, true, false, Some}
use Rattle.std.proofs.Common.{refl, ap, sym, ◌∙◌, subst, arith}
use Rattle.std.specs.declared.option.Option.{Option}
use Rattle.mcs48_isa.specs.declared.operation.Op.TheVariants.{Flow}
use Rattle.mcs48_isa.specs.declared.operation.FlowOp.TheVariants.{Jmp, Retr}
use Rattle.mcs48_core.specs.declared.levels.Pins.{Pins}
use Rattle.mcs48_core.specs.Cpu.{Cpu}
use Rattle.bits.specs.Bits.{bit}
use Rattle.mcs48_core.specs.Timer.{after_timer}
use Rattle.mcs48_core.specs.Step.{Stepped, stepped, executed, row_at}
use Rattle.fw_kernel.specs.declared.labels.TheConstants.{TICK, WAIT, DONE}
use Rattle.fw_kernel.specs.Places.{HasKernel}
use Rattle.joint_run.specs.Run.{Board, World, after_cycles, seen}
use Rattle.joint_run.specs.Starts.{Comes}
use Rattle.law_fw_logic.proofs.Blocks.{ticks_add}
use Rattle.law_fw_logic.proofs.Laws.{comes_here, comes_by, comes_then}
use Rattle.law_fw_logic.proofs.Short.{has_rows}
use Rattle.law_fw_logic.proofs.Service.{waiting, plain, serving, entering, begun, later, IsDue, waits}
use Rattle.law_fw_logic.proofs.Timers.{TimerState, on_time, run_on, soon_entered}

-- a tick start that waiting came to
pub record IsBegun (d : Board) (f : ℕ → ℕ) (ring : List ℕ) (m : Cpu) (board : d.State) (cycle total : ℕ)
    (w : World d.State) : Type 0 where
  pub late : ℕ
  pub tf : Bool
  pub last : Bool
  pub waited : ℕ
  pub is : w ≡ later d cycle (begun late tf last f ring m) board waited m.p2
  pub most : late ≤ 1
  pub time : total + waited ≡ 8194 + late

module _ (d : Board) (bytes : List ℕ) (has : HasKernel bytes) where
  -- the entry takes two cycles, and clears the request
  abbrev pub entered_by : (t pre : ℕ) (tf last t1 : Bool) → TimerState
  entered_by t pre tf last t1 = run_on 2 t1 (record { t = t; pre = pre; tf = tf; rq = false; last = last })

  -- the entry of the timer's interrupt takes two cycles, and leads to a tick start
  pub enters : (t pre : ℕ) (tf last : Bool) (f : ℕ → ℕ) (ring : List ℕ) (m : Cpu) (board : d.State) (cycle : ℕ)
      (Q : World d.State → Type 0)
      → Comes d TICK bytes (record {
        cpu = entering (entered_by t pre tf last (d.pins m.p1 m.p2 cycle board).t1) f ring m;
        board = after_cycles 2 cycle (d.cycle m.p2) board;
        cycle = cycle + 2;
      }) Q
      → Comes d TICK bytes (record { cpu = waiting t pre tf last true (plain f ring m); board = board; cycle = cycle })
      Q
  enters t pre tf last f ring m board cycle Q rest =
      let w : World d.State =
      record { cpu = waiting t pre tf last true (plain f ring m); board = board; cycle = cycle } in
      comes_by d TICK bytes Q w
      (record { cpu = entering (entered_by t pre tf last (seen d w).t1) f ring m; cycles = 2 }) refl refl rest

  waits_row : row_at bytes WAIT ≡ Some (record { op = Flow (Jmp WAIT); len = 2; cycles = 2 })
  waits_row = (has_rows true bytes has WAIT (record { op = Flow (Jmp WAIT); len = 2; cycles = 2 }) refl).0

  -- from waiting to the tick start
  pub begins : (f : ℕ → ℕ) (ring : List ℕ) (m : Cpu) (board : d.State) (cycle t pre : ℕ) (tf last : Bool) → pre < 32
      → t < 256
      → Comes d TICK bytes (record { cpu = waiting t pre tf last false (plain f ring m); board = board; cycle = cycle })
      (IsBegun d f ring m board cycle (32 * t + pre))
  begins f ring m board cycle t pre tf last l low =
      let total = 32 * t + pre in
      let n = plain f ring m in
      comes_then d TICK bytes (IsDue d bytes waits_row n board cycle total) (IsBegun d f ring m board cycle total)
      (record { cpu = waiting t pre tf last false n; board = board; cycle = cycle })
      (waits d bytes waits_row n board cycle total t pre tf last l low refl)
      (λ w due.
      let k = due.waited in
      let now : d.State = after_cycles k cycle (d.cycle m.p2) board in
      let time : total + k ≡ 8192 + due.late = due.time in
      let sum : cycle + k + 2 ≡ cycle + (k + 2) = omega arith in
      let next : Cpu = begun due.late due.tf (d.pins m.p1 m.p2 (cycle + k) now).t1 f ring m in
      let is : entered_by 0 due.late due.tf due.last (d.pins m.p1 m.p2 (cycle + k) now).t1
      ≡ on_time due.late due.tf (d.pins m.p1 m.p2 (cycle + k) now).t1 =
      soon_entered due.late due.most due.tf due.last (d.pins m.p1 m.p2 (cycle + k) now).t1 in
      subst (λ w. Comes d TICK bytes w (IsBegun d f ring m board cycle total)) (sym due.is)
      (enters 0 due.late due.tf due.last f ring m now (cycle + k) (IsBegun d f ring m board cycle total)
      (subst (λ b. Comes d TICK bytes (record {
        cpu = entering b f ring m;
        board = after_cycles 2 (cycle + k) (d.cycle m.p2) now;
        cycle = cycle + k + 2;
      }) (IsBegun d f ring m board cycle total)) (sym is)
      (comes_here d TICK bytes (IsBegun d f ring m board cycle total)
      (record { cpu = next; board = after_cycles 2 (cycle + k) (d.cycle m.p2) now; cycle = cycle + k + 2 })
      (record {
        late = due.late;
        tf = due.tf;
        last = (d.pins m.p1 m.p2 (cycle + k) now).t1;
        waited = k + 2;
        is =
            ap (λ b. record { cpu = next; board = b; cycle = cycle + k + 2 })
            (sym (ticks_add k 2 cycle (d.cycle m.p2) board))
            ∙ ap (λ c. record { cpu = next; board = after_cycles (k + 2) cycle (d.cycle m.p2) board; cycle = c }) sum;
        most = due.most;
        time = omega (arith, time);
      })))))

  -- RETR gives back what the entry stored
  abbrev pub given_back : Cpu → Cpu
  given_back s = record s { pc = WAIT; c = false; ac = false; f0 = false; rb = true; sp = 0; svc = false }

  -- the service's end returns to WAIT with clear flags
  pub back : (pins : Pins) (g : ℕ → ℕ) (ring : List ℕ) (k : Cpu) → g 8 ≡ WAIT → g 9 ≡ 16
      → stepped bytes pins (serving DONE g ring k)
      ≡ Some (record { cpu = after_timer k.run 2 pins (given_back (serving DONE g ring k)); cycles = 2 })
  back pins g ring k e8 e9 =
      let s : Cpu = serving DONE g ring k in
      let row = (has_rows true bytes has DONE (record { op = Flow Retr; len = 1; cycles = 2 }) refl).0 in
      let after : Cpu → Option Stepped = λ n. Some (record { cpu = after_timer k.run 2 pins n; cycles = 2 }) in
      let gives : ℕ → ℕ → Cpu = λ low high. record s {
        pc = high % 16 * 256 + low;
        c = bit 7 high;
        ac = bit 6 high;
        f0 = bit 5 high;
        rb = bit 4 high;
        sp = 0;
        svc = false;
      } in
      ap (λ r. executed r bytes pins s) row ∙ ap (λ u. after (gives u (g 9))) e8 ∙ ap (λ h. after (gives WAIT h)) e9
