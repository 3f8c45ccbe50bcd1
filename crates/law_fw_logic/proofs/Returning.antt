-- From the end of a tick's work to the next tick start, however long the work took.
use Rattle.std.proofs.Common.{◌≡◌, ◌≤◌, ◌<◌, ℕ, zero, suc, ◌+◌, ◌*◌, List, Bool, true, false}
use Rattle.std.proofs.Common.{refl, ap, sym, ◌∙◌, subst, arith, inl, inr, ◌⊎◌}
use Rattle.mcs48_core.specs.declared.processor.Count.TheVariants.{Timer}
use Rattle.mcs48_core.specs.Cpu.{Cpu}
use Rattle.mcs48_core.specs.Timer.{after_timer}
use Rattle.fw_kernel.specs.declared.labels.TheConstants.{TICK, WAIT, DONE}
use Rattle.fw_kernel.specs.Places.{HasKernel}
use Rattle.joint_run.specs.Run.{Board, World, after_cycles, seen}
use Rattle.joint_run.specs.Starts.{Comes}
use Rattle.law_fw_logic.proofs.TimerParts.{IsTiming, timer_parts, total}
use Rattle.law_fw_logic.proofs.Path.{Stage, world_at}
use Rattle.law_fw_logic.proofs.Blocks.{ticks_add}
use Rattle.law_fw_logic.proofs.Laws.{comes_by, comes_here, comes_as}
use Rattle.law_fw_logic.proofs.Service.{waiting, plain, serving, entering, later}
use Rattle.law_fw_logic.proofs.Frame.{IsBegun, begins, entered_by, enters, given_back, back}
use Rattle.law_fw_logic.proofs.Timers.{TimerState, IsInRange, IsRested, RunOn, timer_of, on_time, run_on, runs_on}

-- the work has come to the service's end, with the way back on the stack as it was, by an offset
pub record IsOver (d : Board) (last_off : ℕ) (R : (ℕ → ℕ) → List ℕ → Stage d.State → Type 0)
    (e : Stage d.State) : Type 0 where
  pub now : ℕ → ℕ
  pub ring : List ℕ
  pub cpu : e.cpu ≡ serving DONE now ring e.cpu
  pub low : now 8 ≡ WAIT
  pub high : now 9 ≡ 16
  pub short : e.off ≤ last_off
  pub does : R now ring e

-- the next start is as prompt: 2,048 cycles past the one before, but for how late both are
pub record IsPrompt (late : ℕ) (timer : TimerState) (passed : ℕ) : Type 0 where
  pub late' : ℕ
  pub most : late' ≤ 1
  pub timer' : timer ≡ on_time late' timer.tf timer.last
  pub time : passed + late ≡ 2048 + late'

-- the next tick start, after a tick that began in a cycle with this timer. If the work was longer than 2,040 cycles, the
-- interrupt may wait at its end
pub record Next (d : Board) (x : ℕ) (b : TimerState) (last_off : ℕ) (R : (ℕ → ℕ) → List ℕ → Stage d.State → Type 0)
    (w : World d.State) : Type 0 where
  pub end : Stage d.State
  pub now : ℕ → ℕ
  pub ring : List ℕ
  pub does : R now ring end
  pub cpu : end.cpu ≡ serving DONE now ring end.cpu
  pub timer : TimerState
  pub range : IsInRange timer
  pub waited : ℕ
  pub is : w ≡ later d (x + end.off) (entering timer now ring end.cpu) end.board waited end.cpu.p2
  pub within : (n : ℕ) → 2054 ≤ n → last_off + 4 ≤ n → end.off + waited ≤ n
  pub prompt : (late : ℕ) → late ≤ 1 → b ≡ on_time late b.tf b.last → last_off ≤ 2040
      → IsPrompt late timer (end.off + waited)
  pub long : IsRested b → 2016 ≤ end.off + waited
  pub rested : IsRested b → last_off ≤ 8400 → IsRested timer
  pub settles : IsRested b → last_off ≤ 2000
      → (late : ℕ) × (late ≤ 1) × (timer ≡ on_time late timer.tf timer.last)

-- what the timer counts from 6,144 on, or from up to 32 more, overflows and goes on from 0
pub record IsCounted (off : ℕ) (k : Cpu) : Type 0 where
  pub first : ℕ
  pub least : 6144 ≤ first
  pub most : first ≤ 6176
  pub overflows : ℕ
  pub count : total (timer_parts k) + 3 + 8192 * overflows ≡ first + off
  pub none : overflows ≡ 0 → k.rq ≡ false

-- where the work's end finds the timer: an overflow asks, or it hasn't come; and it hasn't if start and work are in time
pub record IsTimed (b : TimerState) (last_off off : ℕ) (k : Cpu) : Type 0 where
  pub timing : IsTiming (timer_parts k)
  pub asks : (k.rq ≡ true) ⊎ ((k.rq ≡ false) × (6144 + off ≤ total (timer_parts k) + 3))
  pub punctual : (late : ℕ) → late ≤ 1 → b ≡ on_time late b.tf b.last → last_off ≤ 2040
      → (k.rq ≡ false) × (total (timer_parts k) + 3 ≡ 6149 + late + off)
  pub counted : IsRested b → IsCounted off k

module _ (d : Board) (bytes : List ℕ) (has : HasKernel bytes) where
  module _ (x : ℕ) (b : TimerState) (last_off : ℕ) (R : (ℕ → ℕ) → List ℕ → Stage d.State → Type 0)
      (e : Stage d.State) (over : IsOver d last_off R e) (timed : IsTimed b last_off e.off e.cpu) where
    abbrev k : Cpu
    k = e.cpu

    abbrev off : ℕ
    off = e.off

    abbrev f : ℕ → d.State → d.State
    f = d.cycle k.p2

    abbrev two : d.State
    two = after_cycles 2 (x + off) f e.board

    abbrev main : Cpu
    main = plain over.now over.ring k

    -- the timer after RETR
    abbrev back_timer : Bool → TimerState
    back_timer t1 = run_on 2 t1 (timer_of k)

    abbrev back_at : Bool → World d.State
    back_at t1 =
        let r = back_timer t1 in
        record { cpu = waiting r.t r.pre r.tf r.last r.rq main; board = two; cycle = x + off + 2 }

    runs : (t1 : Bool) → RunOn 2 (timer_of k) (back_timer t1)
    runs t1 = runs_on 2 t1 (timer_of k) (record { t = timed.timing.t; pre = timed.timing.pre }) (omega arith)

    -- it is due since an overflow
    overflown : (t1 : Bool) → (back_timer t1).rq ≡ true → (c : IsCounted off k)
        → 32 * (back_timer t1).t + (back_timer t1).pre + 8193 ≤ c.first + off
    overflown t1 due c = by c.overflows refl (runs t1).counts.0 refl
      where
        by : (n : ℕ) → c.overflows ≡ n → (m : ℕ) → (runs t1).counts.0 ≡ m
            → 32 * (back_timer t1).t + (back_timer t1).pre + 8193 ≤ c.first + off
        by zero e zero g =
            let count : 32 * (back_timer t1).t + (back_timer t1).pre + 8192 * (runs t1).counts.0 ≡ 32 * k.t + k.pre + 2 =
            (runs t1).counts.1 in
            let low : (back_timer t1).pre < 32 = (runs t1).range.pre in
            let high : (back_timer t1).t < 256 = (runs t1).range.t in
            let still : (back_timer t1).rq ≡ k.rq = (runs t1).still (omega (arith, count, g, low, high)) in
            absurd (let both : true ≡ false = sym due ∙ still ∙ c.none e in cc)
        by (suc n) e m g =
            let count : 32 * (back_timer t1).t + (back_timer t1).pre + 8192 * (runs t1).counts.0 ≡ 32 * k.t + k.pre + 2 =
            (runs t1).counts.1 in
            let before : 32 * k.t + k.pre + 3 + 8192 * c.overflows ≡ c.first + off = c.count in
            omega (arith, count, before, e, g)
        by zero e (suc m) g =
            let count : 32 * (back_timer t1).t + (back_timer t1).pre + 8192 * (runs t1).counts.0 ≡ 32 * k.t + k.pre + 2 =
            (runs t1).counts.1 in
            let before : 32 * k.t + k.pre + 3 + 8192 * c.overflows ≡ c.first + off = c.count in
            omega (arith, count, before, e, g)

    -- where the interrupt is due, the entry comes next
    at_once : (t1 : Bool) → (back_timer t1).rq ≡ true → Comes d TICK bytes (back_at t1) (Next d x b last_off R)
    at_once t1 due =
        let r = back_timer t1 in
        let t2 : Bool = (d.pins k.p1 k.p2 (x + off + 2) two).t1 in
        let timer : TimerState = entered_by d bytes has r.t r.pre r.tf r.last t2 in
        let board : d.State = after_cycles 2 (x + off + 2) f two in
        let sum : x + off + 2 + 2 ≡ x + off + 4 = omega arith in
        let short : off ≤ last_off = over.short in
        subst (λ q. Comes d TICK bytes
        (record { cpu = waiting r.t r.pre r.tf r.last q main; board = two; cycle = x + off + 2 })
        (Next d x b last_off R)) (sym due)
        (enters d bytes has r.t r.pre r.tf r.last over.now over.ring k two (x + off + 2) (Next d x b last_off R)
        (comes_here d TICK bytes (Next d x b last_off R)
        (record { cpu = entering timer over.now over.ring k; board = board; cycle = x + off + 2 + 2 })
        (record {
          end = e;
          now = over.now;
          ring = over.ring;
          does = over.does;
          cpu = over.cpu;
          timer = timer;
          range =
              (runs_on 2 t2 (record { t = r.t; pre = r.pre; tf = r.tf; rq = false; last = r.last })
              (record { t = (runs t1).range.t; pre = (runs t1).range.pre }) (omega arith)).range;
          waited = 4;
          is =
              ap (λ v. record { cpu = entering timer over.now over.ring k; board = v; cycle = x + off + 2 + 2 })
              (sym (ticks_add 2 2 (x + off) f e.board))
              ∙ ap (λ c. record {
                cpu = entering timer over.now over.ring k;
                board = after_cycles 4 (x + off) f e.board;
                cycle = c;
              }) sum;
          within = λ n least more. omega (arith, more, short);
          prompt = λ late few is room.
              absurd (let p = timed.punctual late few is room in
              let count : 32 * k.t + k.pre + 3 ≡ 6149 + late + off = p.1 in
              let still : (back_timer t1).rq ≡ k.rq = (runs t1).still (omega (arith, count, few, room, short)) in
              let both : true ≡ false = sym due ∙ still ∙ p.0 in cc);
          long = λ rest.
              let o : 32 * r.t + r.pre + 8193 ≤ (timed.counted rest).first + off = overflown t1 due (timed.counted rest) in
              let most : (timed.counted rest).first ≤ 6176 = (timed.counted rest).most in
              omega (arith, o, most);
          rested = λ rest room.
              let o : 32 * r.t + r.pre + 8193 ≤ (timed.counted rest).first + off = overflown t1 due (timed.counted rest) in
              let most : (timed.counted rest).first ≤ 6176 = (timed.counted rest).most in
              let on = runs_on 2 t2 (record { t = r.t; pre = r.pre; tf = r.tf; rq = false; last = r.last })
              (record { t = (runs t1).range.t; pre = (runs t1).range.pre }) (omega arith) in
              let n : ℕ = on.counts.0 in
              let count : 32 * timer.t + timer.pre + 8192 * n ≡ 32 * r.t + r.pre + 2 = on.counts.1 in
              record {
                clear = on.still (omega (arith, o, most, short, room));
                low = omega (arith, o, most, short, room, count);
              };
          settles = λ rest room.
              let o : 32 * r.t + r.pre + 8193 ≤ (timed.counted rest).first + off = overflown t1 due (timed.counted rest) in
              let most : (timed.counted rest).first ≤ 6176 = (timed.counted rest).most in
              absurd (omega (arith, o, most, short, room));
        })))

    -- else it comes with the next overflow
    at_last : (t1 : Bool) → (back_timer t1).rq ≡ false → Comes d TICK bytes (back_at t1) (Next d x b last_off R)
    at_last t1 none =
        let r = back_timer t1 in
        let goes = (runs t1).clear none in
        let count : 32 * r.t + r.pre ≡ 32 * k.t + k.pre + 2 = goes.1 in
        let least : 6144 + off ≤ 32 * k.t + k.pre + 3 = elim timed.asks [
          | inl due ↦ absurd (let both : true ≡ false = sym due ∙ goes.0 in cc)
          | inr rest ↦ rest.1
        ] in
        let low : r.pre < 32 = (runs t1).range.pre in
        let high : r.t < 256 = (runs t1).range.t in
        subst (λ q. Comes d TICK bytes
        (record { cpu = waiting r.t r.pre r.tf r.last q main; board = two; cycle = x + off + 2 })
        (Next d x b last_off R)) (sym none)
        (comes_as d TICK bytes (IsBegun d over.now over.ring k two (x + off + 2) (32 * r.t + r.pre)) (Next d x b last_off R)
        (record { cpu = waiting r.t r.pre r.tf r.last false main; board = two; cycle = x + off + 2 })
        (λ w i.
        let n = i.waited in
        let timer : TimerState = on_time i.late i.tf i.last in
        let most : i.late ≤ 1 = i.most in
        let sum : x + off + 2 + n ≡ x + off + (2 + n) = omega arith in
        let time : 32 * r.t + r.pre + n ≡ 8194 + i.late = i.time in
        record {
          end = e;
          now = over.now;
          ring = over.ring;
          does = over.does;
          cpu = over.cpu;
          timer = timer;
          range = record { t = omega arith; pre = omega (arith, most) };
          waited = 2 + n;
          is =
              i.is ∙ ap (λ v. record { cpu = entering timer over.now over.ring k; board = v; cycle = x + off + 2 + n })
              (sym (ticks_add 2 n (x + off) f e.board))
              ∙ ap (λ c. record {
                cpu = entering timer over.now over.ring k;
                board = after_cycles (2 + n) (x + off) f e.board;
                cycle = c;
              }) sum;
          within = λ n' more last. omega (arith, least, count, time, most, more);
          prompt = λ late few is room.
              let p = timed.punctual late few is room in
              let from : 32 * k.t + k.pre + 3 ≡ 6149 + late + off = p.1 in
              record { late' = i.late; most = i.most; timer' = refl; time = omega (arith, time, count, from) };
          long = λ rest.
              let c = timed.counted rest in
              let from : 32 * k.t + k.pre + 3 + 8192 * c.overflows ≡ c.first + off = c.count in
              let upto : c.first ≤ 6176 = c.most in
              omega (arith, time, count, from, upto);
          rested = λ rest room. record { clear = refl; low = omega (arith, most) };
          settles = λ rest room. (i.late, i.most, refl);
        })
        (begins d bytes has over.now over.ring k two (x + off + 2) r.t r.pre r.tf r.last low high))

    -- from the service's end RETR and the wait lead to the next tick start
    pub ends : Comes d TICK bytes (world_at x e) (Next d x b last_off R)
    ends =
        let s : Cpu = serving DONE over.now over.ring k in
        let w : World d.State = record { cpu = s; board = e.board; cycle = x + off } in
        let pins = seen d w in
        let r = back_timer pins.t1 in
        let run : k.run ≡ Timer = timed.timing.run in
        let given : Cpu = given_back d bytes has s in
        let gives : after_timer k.run 2 pins given ≡ waiting r.t r.pre r.tf r.last r.rq main =
        ap (λ q. after_timer q 2 pins (record given { run = q })) run in
        let goal : World d.State → Type 0 = Next d x b last_off R in
        subst (λ c. Comes d TICK bytes (record { cpu = c; board = e.board; cycle = x + off }) goal) (sym over.cpu)
        (comes_by d TICK bytes goal w (record { cpu = after_timer k.run 2 pins given; cycles = 2 }) refl
        (back d bytes has pins over.now over.ring k over.low over.high)
        (subst (λ c. Comes d TICK bytes
        (record { cpu = c; board = after_cycles 2 (x + off) (d.cycle c.p2) e.board; cycle = x + off + 2 }) goal) (sym gives)
        (by pins.t1 (back_timer pins.t1).rq refl)))
      where
        by : (t1 : Bool) → (q : Bool) → (back_timer t1).rq ≡ q → Comes d TICK bytes (back_at t1) (Next d x b last_off R)
        by t1 true is = at_once t1 is
        by t1 false is = at_last t1 is
