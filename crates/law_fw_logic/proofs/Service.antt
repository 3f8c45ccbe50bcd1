-- The frame of a tick: the main program waits with the timer's interrupt enabled, and the service returns to it.
use Rattle.std.proofs.Common.{◌≡◌, ◌≤◌, ◌<◌, ◌⊎◌, ℕ, suc, zero, ◌+◌, ◌-◌, ◌*◌, ◌%◌, List, Bool, true, false, ◌==◌}
use Rattle.std.proofs.Common.{nat_le}
use Rattle.std.proofs.Common.{Some, refl, ap, sym, ◌∙◌, subst, arith, inl, inr}
use Rattle.std.proofs.lemmas.Bool.Decides.{nat_tests}
use Rattle.mcs48_isa.specs.declared.operation.Op.TheVariants.{Flow}
use Rattle.mcs48_isa.specs.declared.operation.FlowOp.TheVariants.{Jmp}
use Rattle.mcs48_core.specs.declared.levels.Pins.{Pins}
use Rattle.mcs48_core.specs.declared.processor.Count.TheVariants.{Timer}
use Rattle.mcs48_core.specs.Cpu.{Cpu}
use Rattle.mcs48_core.specs.Timer.{after_timer}
use Rattle.mcs48_core.specs.Step.{executed, row_at}
use Rattle.fw_kernel.specs.declared.labels.TheConstants.{TICK, WAIT}
use Rattle.joint_run.specs.Run.{Board, World, after_cycles, seen}
use Rattle.joint_run.specs.Starts.{Comes}
use Rattle.law_fw_logic.proofs.Block.{memory, put}
use Rattle.law_fw_logic.proofs.Blocks.{ticks_add}
use Rattle.law_fw_logic.proofs.Laws.{comes_here, comes_by}
use Rattle.law_fw_logic.proofs.Timers.{TimerState, timed, on_time}

-- the main program at WAIT: the timer runs, and its interrupt alone is enabled
abbrev pub waiting : ℕ → ℕ → Bool → Bool → Bool → Cpu → Cpu
waiting t pre tf last rq m = record m {
  pc = WAIT;
  t = t;
  pre = pre;
  tf = tf;
  last_t1 = last;
  rq = rq;
  run = Timer;
  ext_on = false;
  tim_on = true;
  svc = false;
  mb = false;
}

-- with clear flags, register bank 1, nothing on the stack, and this data memory
abbrev pub plain : (ℕ → ℕ) → List ℕ → Cpu → Cpu
plain f ring m = record m { c = false; ac = false; f0 = false; rb = true; sp = 0; ram = memory f ring }

-- in service at a place
abbrev pub serving : ℕ → (ℕ → ℕ) → List ℕ → Cpu → Cpu
serving pc f ring m = record m {
  pc = pc;
  rb = true;
  sp = 1;
  mb = false;
  ext_on = false;
  tim_on = true;
  svc = true;
  ram = memory f ring;
}

-- data memory with the way back to WAIT on the stack: the counter's low byte, and the status with bank 1 alone
abbrev pub stacked : (ℕ → ℕ) → ℕ → ℕ
stacked f = put (put f 8 WAIT) 9 16

-- at a tick start, whatever the timer is: the service's first instruction comes next
abbrev pub entering : TimerState → (ℕ → ℕ) → List ℕ → Cpu → Cpu
entering b f ring m = timed b (record (serving TICK (stacked f) ring m) { c = false; ac = false; f0 = false })

-- at one that is so many cycles late
abbrev pub begun : ℕ → Bool → Bool → (ℕ → ℕ) → List ℕ → Cpu → Cpu
begun late tf last f ring m = entering (on_time late tf last) f ring m

-- the timer over a step of two cycles: it goes on, or it overflows and asks
pub record Asked (t pre : ℕ) (tf : Bool) : Type 0 where
  pub t' : ℕ
  pub pre' : ℕ
  pub tf' : Bool
  pub rq' : Bool
  pub is : (m : Cpu) (last : Bool) (pins : Pins)
      → after_timer Timer 2 pins (waiting t pre tf last false m) ≡ waiting t' pre' tf' pins.t1 rq' m
  pub small : pre' < 32
  pub low : t' < 256
  pub sum : ((32 * t + pre + 2 < 8192) × (32 * t' + pre' ≡ 32 * t + pre + 2) × (rq' ≡ false))
      ⊎ ((8192 ≤ 32 * t + pre + 2) × (32 * t' + pre' + 8192 ≡ 32 * t + pre + 2) × (rq' ≡ true))

asked_by : (t pre : ℕ) (tf : Bool) → pre < 32 → t < 256 → (a b : Bool) → nat_le 32 (pre + 2) ≡ a → (t == 255) ≡ b
    → Asked t pre tf
asked_by t pre tf l k false b ea eb =
    let lt : pre + 2 < 32 = grind (arith, nat_tests, ea) in
    record {
      t' = t;
      pre' = pre + 2;
      tf' = tf;
      rq' = false;
      is = λ m last pins. rw ea refl;
      small = lt;
      low = k;
      sum = inl (omega (arith, lt, k), omega arith, refl);
    }
asked_by t pre tf l k true false ea eb =
    let le : 32 ≤ pre + 2 = grind (arith, nat_tests, ea) in
    let ne : t < 255 = grind (arith, nat_tests, eb, k) in
    record {
      t' = (t + 1) % 256;
      pre' = pre + 2 - 32;
      tf' = tf;
      rq' = false;
      is = λ m last pins. rw (ea, eb) refl;
      small = omega (arith, l);
      low = omega arith;
      sum = inl (omega (arith, ne, l), omega (arith, ne, le), refl);
    }
asked_by t pre tf l k true true ea eb =
    let le : 32 ≤ pre + 2 = grind (arith, nat_tests, ea) in
    let high : t ≡ 255 = grind (arith, nat_tests, eb) in
    record {
      t' = (t + 1) % 256;
      pre' = pre + 2 - 32;
      tf' = true;
      rq' = true;
      is = λ m last pins. rw (ea, eb) refl;
      small = omega (arith, l);
      low = omega arith;
      sum = inr (omega (arith, high, le), omega (arith, high, le), refl);
    }

-- in a step of two cycles the waiting program's timer counts on, or overflows and asks for its interrupt
pub asked : (t pre : ℕ) (tf : Bool) → pre < 32 → t < 256 → Asked t pre tf
asked t pre tf l k = asked_by t pre tf l k (nat_le 32 (pre + 2)) (t == 255) refl refl

-- in so many cycles from a state on, by the latch of port 2 as it stays
abbrev pub later : (d : Board) → ℕ → Cpu → d.State → ℕ → ℕ → World d.State
later d cycle c board n p2 = record { cpu = c; board = after_cycles n cycle (d.cycle p2) board; cycle = cycle + n }

module _ (d : Board) (bytes : List ℕ)
    (row : row_at bytes WAIT ≡ Some (record { op = Flow (Jmp WAIT); len = 2; cycles = 2 }))
    (m : Cpu) (board : d.State) (cycle total : ℕ) where
  -- the interrupt is due, at most a cycle after the overflow
  pub record IsDue (w : World d.State) : Type 0 where
    pub late : ℕ
    pub tf : Bool
    pub last : Bool
    pub waited : ℕ
    pub is : w ≡ later d cycle (waiting 0 late tf last true m) board waited m.p2
    pub most : late ≤ 1
    pub time : total + waited ≡ 8192 + late

  abbrev Idles : ℕ → Type 0
  Idles k = (t pre n : ℕ) (tf last : Bool) → pre < 32 → t < 256 → 32 * t + pre < 8192 → 8192 ≤ 32 * t + pre + 2 * suc k
      → total + n ≡ 32 * t + pre
      → Comes d TICK bytes (later d cycle (waiting t pre tf last false m) board n m.p2) IsDue

  turned : (k : ℕ) → ((j : ℕ) → k ≡ suc j → Idles j) → (t pre n : ℕ) (tf last : Bool) → 32 * t + pre < 8192
      → 8192 ≤ 32 * t + pre + 2 * suc k → total + n ≡ 32 * t + pre → (q : Asked t pre tf)
      → ((32 * t + pre + 2 < 8192) × (32 * q.t' + q.pre' ≡ 32 * t + pre + 2) × (q.rq' ≡ false))
      ⊎ ((8192 ≤ 32 * t + pre + 2) × (32 * q.t' + q.pre' + 8192 ≡ 32 * t + pre + 2) × (q.rq' ≡ true))
      → Comes d TICK bytes (later d cycle (waiting q.t' q.pre' q.tf' last q.rq' m) board (n + 2) m.p2) IsDue
  turned k ih t pre n tf last below enough time q (inr h) =
      let sum : 32 * q.t' + q.pre' + 8192 ≡ 32 * t + pre + 2 = h.1 in
      let none : q.t' ≡ 0 = omega (arith, sum, below) in
      let w : World d.State = later d cycle (waiting q.t' q.pre' q.tf' last q.rq' m) board (n + 2) m.p2 in
      comes_here d TICK bytes IsDue w
      (record {
        late = q.pre';
        tf = q.tf';
        last = last;
        waited = n + 2;
        is =
            ap (λ t. later d cycle (waiting t q.pre' q.tf' last q.rq' m) board (n + 2) m.p2) none
            ∙ ap (λ r. later d cycle (waiting 0 q.pre' q.tf' last r m) board (n + 2) m.p2) h.2;
        most = omega (arith, sum, none, below);
        time = omega (arith, sum, none, time);
      })
  turned zero ih t pre n tf last below enough time q (inl h) =
      absurd (let l : 32 * t + pre + 2 < 8192 = h.0 in omega (arith, l, enough))
  turned (suc k) ih t pre n tf last below enough time q (inl h) =
      let sum : 32 * q.t' + q.pre' ≡ 32 * t + pre + 2 = h.1 in
      let l : 32 * t + pre + 2 < 8192 = h.0 in
      subst (λ r. Comes d TICK bytes (later d cycle (waiting q.t' q.pre' q.tf' last r m) board (n + 2) m.p2) IsDue)
      (sym h.2)
      (ih k refl q.t' q.pre' (n + 2) q.tf' last q.small q.low (omega (arith, sum, l)) (omega (arith, sum, enough))
      (omega (arith, sum, time)))

  turn : (k : ℕ) → ((j : ℕ) → k ≡ suc j → Idles j) → Idles k
  turn k ih t pre n tf last l low below enough time =
      let w : World d.State = later d cycle (waiting t pre tf last false m) board n m.p2 in
      let pins = seen d w in
      let q = asked t pre tf l low in
      let next : Cpu = waiting q.t' q.pre' q.tf' pins.t1 q.rq' m in
      let sum : cycle + n + 2 ≡ cycle + (n + 2) = omega arith in
      comes_by d TICK bytes IsDue w (record { cpu = next; cycles = 2 }) refl
      (ap (λ r. executed r bytes pins w.cpu) row ∙ ap (λ c. Some (record { cpu = c; cycles = 2 })) (q.is m last pins))
      (subst (λ c. Comes d TICK bytes
      (record { cpu = next; board = after_cycles 2 (cycle + n) (d.cycle m.p2) w.board; cycle = c }) IsDue)
      (sym sum)
      (subst (λ b. Comes d TICK bytes (record { cpu = next; board = b; cycle = cycle + (n + 2) }) IsDue)
      (ticks_add n 2 cycle (d.cycle m.p2) board)
      (turned k ih t pre n tf pins.t1 below enough time q q.sum)))

  idles : (k : ℕ) → Idles k
  idles zero = turn zero (λ j e. absurd (omega (arith, e)))
  idles (suc k) = turn (suc k) (λ j e. let n : k ≡ j = omega (arith, e) in subst (λ n. Idles n) n (idles k))

  -- waiting comes to the interrupt
  pub waits : (t pre : ℕ) (tf last : Bool) → pre < 32 → t < 256 → total ≡ 32 * t + pre
      → Comes d TICK bytes (record { cpu = waiting t pre tf last false m; board = board; cycle = cycle }) IsDue
  waits t pre tf last l low time =
      let z : cycle + 0 ≡ cycle = omega arith in
      subst (λ c. Comes d TICK bytes (record { cpu = waiting t pre tf last false m; board = board; cycle = c }) IsDue) z
      (idles 4096 t pre 0 tf last l low (omega (arith, l, low)) (omega arith) (omega (arith, time)))
