-- Runs between stages: composition, and one instruction.
use Rattle.std.proofs.Common.{◌≡◌, ◌≤◌, ◌<◌, ℕ, suc, zero, ◌+◌, ◌-◌, ◌%◌, List, Bool, true, false, not, ◌&&◌, ◌==◌, leb}
use Rattle.std.proofs.Common.{Some, None, refl, ap, sym, ◌∙◌, subst, arith, inl, inr, zero-add}
use Rattle.std.proofs.lemmas.Bool.Decides.{nat_tests}
use Rattle.std.specs.declared.option.Option.{Option}
use Rattle.mcs48_isa.specs.declared.operation.Decoded.{Decoded}
use Rattle.mcs48_isa.specs.declared.operation.Op.{Op}
use Rattle.mcs48_core.specs.declared.levels.Pins.{Pins}
use Rattle.mcs48_core.specs.Cpu.{Cpu}
use Rattle.mcs48_core.specs.Registers.{past}
use Rattle.mcs48_core.specs.Timer.{after_timer}
use Rattle.mcs48_core.specs.Step.{Stepped, row_at, stepped, effect, executed, entered, takes_external, takes_timer}
use Rattle.joint_run.specs.Run.{Board, World, after_cycles, seen, after_step, joint_step}
use Rattle.joint_run.specs.Starts.{calm_step, calm}
use Rattle.law_fw_logic.proofs.TimerParts.{IsFree, is_plain, is_closed, timer_parts, total, IsLater, IsAsking}
use Rattle.law_fw_logic.proofs.Path.{Stage, Code}
use Rattle.law_fw_logic.proofs.Path.{world_at, pins_at, moved}
use Rattle.law_fw_logic.proofs.Path.{left, is_taken}
use Rattle.law_fw_logic.proofs.Leads.{Leads, LetsNone, HasRows}
use Rattle.law_fw_logic.proofs.Groups.{effect_timer, effect_free, plain_closed}
use Rattle.law_fw_logic.proofs.Timing.{step_later, later_then, step_asks, asking_then}

-- while no interrupt can come, no step takes the external one, whatever the pins show
pub not_external : (pins : Pins) (m : Cpu) → IsFree m → takes_external pins m ≡ false
not_external pins m (inl h) = rw h refl
not_external pins m (inr h) =
    let e = h.0 in rw e (elim (not m.svc) as (λ b. (b && false && not pins.int_pin)
    ≡ false) [ true ↦ refl | false ↦ refl ])

-- while no interrupt can come, no step takes the timer's
pub not_timer : (m : Cpu) → IsFree m → takes_timer m ≡ false
not_timer m (inl h) = rw h refl
not_timer m (inr h) =
    let e = h.1 in rw e (elim (not m.svc) as (λ b. (b && false && m.rq) ≡ false) [ true ↦ refl | false ↦ refl ])

-- the step of a processor that can't be interrupted
pub stepped_is : (bytes : List ℕ) (pins : Pins) (m : Cpu) (r : Decoded) → IsFree m → row_at bytes m.pc ≡ Some r
    → stepped bytes pins m ≡ Some
    (record { cpu = after_timer m.run r.cycles pins (effect r.op bytes pins (past m)); cycles = r.cycles })
stepped_is bytes pins m r free row =
    let next : Stepped =
    record { cpu = after_timer m.run r.cycles pins (effect r.op bytes pins (past m)); cycles = r.cycles } in
    subst (λ x. (elim x as (λ v. Option
    Stepped) [
      | true ↦ Some (entered 3 pins m)
      | false ↦ elim (takes_timer m) as
          (λ v. Option Stepped) [
            | true ↦ Some (entered 7 pins (record m { rq = false }))
            | false ↦ executed
                (row_at bytes m.pc) bytes pins m
          ]
    ]) ≡ Some next) (sym (not_external pins m free))
    (subst (λ x. (elim x as (λ v. Option
    Stepped) [
      | true ↦ Some (entered 7 pins (record m { rq = false }))
      | false ↦ executed
          (row_at bytes m.pc) bytes pins m
    ]) ≡ Some next) (sym (not_timer m free))
    (ap (λ o. executed o bytes pins m) row))

-- offsets are cycles from x on
pub ticks_from : {S : Type 0} (n off x : ℕ) (f : ℕ → S → S) (s : S)
    → after_cycles n (x + off) f s ≡ after_cycles n off (λ o. f (x + o)) s
ticks_from zero off x f s = refl
ticks_from (suc n) off x f s =
    let e : x + off + 1 ≡ x + (off + 1) = omega arith in rw e (ticks_from n (off + 1) x f (f (x + off) s))

module _ (d : Board) (code : Code) (has : HasRows code) (x : ℕ) where
  calm_on : (n k : ℕ) (e : World d.State)
      → ((t : World d.State) → calm d code.tick code.bytes n t ≡ Some e → calm d code.tick code.bytes (n + k) t
      ≡ calm d code.tick code.bytes k e)
      → (o : Option (World d.State))
      → (elim o as (λ v. Option (World d.State)) [ None ↦ None | Some t ↦ calm d code.tick code.bytes n t ]) ≡ Some e
      → (elim o as (λ v. Option (World d.State)) [ None ↦ None | Some t ↦ calm d code.tick code.bytes (n + k) t ])
      ≡ calm d code.tick code.bytes k e
  calm_on n k e ih None h = absurd cc
  calm_on n k e ih (Some t) h = ih t h

  -- n steps without a tick start and then k more are n + k such steps
  pub calm_add : (n k : ℕ) (w e : World d.State) → calm d code.tick code.bytes n w ≡ Some e
      → calm d code.tick code.bytes (n + k) w ≡ calm d code.tick code.bytes k e
  calm_add zero k w e h = let g : w ≡ e = cc in rw (zero-add, g) refl
  calm_add (suc n) k w e h =
      let c : suc n + k ≡ suc (n + k) = omega arith in rw c
      (calm_on n k e (λ t g. calm_add n k t e g) (calm_step d code.tick code.bytes w) h)

  -- what holds of each state of a run, and of each after its end
  pub each_add : (P : World d.State → Type 0) (n j : ℕ) (w e : World d.State) → calm d code.tick code.bytes n w ≡ Some e
      → ((k : ℕ) (one : World d.State) → k < n → calm d code.tick code.bytes k w ≡ Some one → P one)
      → ((k : ℕ) (one : World d.State) → k < j → calm d code.tick code.bytes k e ≡ Some one → P one)
      → (k : ℕ) (one : World d.State) → k < n + j → calm d code.tick code.bytes k w ≡ Some one → P one
  each_add P n j w e run first rest k one l at = by (leb n k) refl
    where
      by : (b : Bool) → leb n k ≡ b → P one
      by false h = first k one (grind (arith, nat_tests, h)) at
      by true h =
          let more : n ≤ k = grind (arith, nat_tests, h) in
          let sum : n + (k - n) ≡ k = omega (arith, more) in
          rest (k - n) one (omega (arith, more, l))
          (sym (calm_add n (k - n) w e run) ∙ ap (λ i. calm d code.tick code.bytes i w) sum ∙ at)

  -- if a stage leads to a set, and each stage of the set to another one, there is a way of both
  pub chain : (Q R : Stage d.State → Type 0) (s : Stage d.State) → Leads d code x s Q
      → ((e : Stage d.State) → Q e → IsFree e.cpu → Leads d code x e R) → Leads d code x s R
  chain Q R s first rest =
      let e = first.end in
      let r = rest e first.goal first.free in
      record {
        steps = first.steps + r.steps;
        end = r.end;
        run = calm_add first.steps r.steps (world_at x s) (world_at x e) first.run ∙ r.run;
        goal = r.goal;
        each = each_add (λ v. LetsNone code.bytes v.cpu) first.steps r.steps (world_at x s) (world_at x e) first.run
            first.each r.each;
        free = r.free;
        order = let a : s.off ≤ e.off = first.order in let b : e.off ≤ r.end.off = r.order in omega (arith, a, b);
        timer_later = λ timed timing room.
            let a : s.off ≤ e.off = first.order in
            let b : e.off ≤ r.end.off = r.order in
            let one = first.timer_later timed timing (omega (arith, room, b)) in
            let count : total (timer_parts e.cpu) + s.off ≡ total (timer_parts s.cpu) + e.off = one.count in
            later_then (timer_parts s.cpu) (timer_parts e.cpu) (timer_parts r.end.cpu) s.off e.off r.end.off one
            (r.timer_later timed one.timing (omega (arith, count, room, a, b)));
        over = λ timed timing on.
            let one = first.over timed timing on in
            asking_then (timer_parts s.cpu) (timer_parts e.cpu) (timer_parts r.end.cpu) s.off e.off r.end.off
            (first.timer_later timed timing) one (r.over timed one.timing one.tim_on);
      }

  -- a stage of a set leads to the set in zero steps
  pub stay : (Q : Stage d.State → Type 0) (s : Stage d.State) → Q s → IsFree s.cpu → Leads d code x s Q
  stay Q s h free =
      record {
        steps = 0;
        end = s;
        run = refl;
        goal = h;
        each = λ k one l at. absurd (omega (arith, l));
        free = free;
        order = omega arith;
        timer_later = λ timed timing room. record { count = refl; timing = timing; tf = refl; rq = refl; tim_on = refl };
        over = λ timed timing on.
            let pre : s.cpu.pre < 32 = timing.pre in
            let t : s.cpu.t < 256 = timing.t in
            record {
              timing = timing;
              tim_on = on;
              keeps = λ q. q;
              asks = λ room. absurd (omega (arith, room, pre, t));
              counts = (0, omega arith);
            };
      }

  -- a stage that leads to a set leads to each larger one
  pub weaken : (Q R : Stage d.State → Type 0) (s : Stage d.State) → ((e : Stage d.State) → Q e → R e)
      → Leads d code x s Q → Leads d code x s R
  weaken Q R s f h =
      record {
        steps = h.steps;
        end = h.end;
        run = h.run;
        goal = f h.end h.goal;
        each = h.each;
        free = h.free;
        order = h.order;
        timer_later = h.timer_later;
        over = h.over;
      }

  -- a stage comes to one of the set
  abbrev pub To : Stage d.State → (Stage d.State → Type 0) → Type 0
  To s K = IsFree s.cpu → Leads d code x s K

  -- if a stage leads to a set, and each stage of the set to another one, the stage leads to that
  pub then : (K R : Stage d.State → Type 0) (s : Stage d.State) → To s K → ((e : Stage d.State) → K e → To e R) → To s R
  then K R s first rest free = chain K R s (first free) rest

  -- a stage of a set is led to the set by zero steps
  pub here : (K : Stage d.State → Type 0) (s : Stage d.State) → K s → To s K
  here K s h free = stay K s h free

  -- a stage whose row is known takes that row's step
  pub one_step : (s : Stage d.State) (r : Decoded) → IsFree s.cpu → row_at code.bytes s.cpu.pc ≡ Some r
      → (s.cpu.pc % 2048 == code.tick) ≡ false
      → calm d code.tick code.bytes 1 (world_at x s) ≡ Some (world_at x (moved d x r.cycles (left d code x r s) s))
  one_step s r free row off =
      let w = world_at x s in
      let m = left d code x r s in
      let next : Stage d.State = moved d x r.cycles m s in
      let step : joint_step d code.bytes w
      ≡ Some (record {
        cpu = m;
        board = after_cycles r.cycles (x + s.off) (d.cycle m.p2) s.board;
        cycle = x + s.off + r.cycles;
      }) =
      ap (λ o. after_step d w o) (stepped_is code.bytes (pins_at d x s) s.cpu r free row) in
      let sum : x + s.off + r.cycles ≡ x + (s.off + r.cycles) = omega arith in
      let one : joint_step d code.bytes w ≡ Some (world_at x next) =
      step ∙ ap (λ b. Some (record { cpu = m; board = b; cycle = x + s.off + r.cycles }))
      (ticks_from r.cycles s.off x (d.cycle m.p2) s.board)
      ∙ ap (λ n. Some (record { cpu = m; board = next.board; cycle = n })) sum in
      let calm_one : calm_step d code.tick code.bytes w ≡ Some (world_at x next) =
      ap
      (λ b. elim (b && not (takes_external (seen d w) w.cpu) && not (takes_timer w.cpu)) as (λ v. Option
      (World d.State)) [ true ↦ None | false ↦ joint_step d code.bytes w ]) off
      ∙ one in
      ap (λ o. elim o as (λ v. Option (World d.State)) [ None ↦ None | Some next ↦ Some next ]) calm_one

  -- an instruction that a path may have lets no interrupt in
  pub taken_closed : (b : Bool) (op : Op) → is_taken b op ≡ true → is_closed op ≡ true
  taken_closed true op h = plain_closed op h
  taken_closed false op h = h

  -- a stage whose row is known leads to the stage that the row leaves
  pub by_row : (K : Stage d.State → Type 0) (s : Stage d.State) (r : Decoded) → code.row s.cpu.pc ≡ Some r
      → is_taken code.timed r.op ≡ true → (s.cpu.pc % 2048 == code.tick) ≡ false
      → K (moved d x r.cycles (left d code x r s) s) → To s K
  by_row K s r row taken off h free =
      let row-is = has s.cpu.pc r row in
      let few : r.cycles ≤ 2 = row-is.1 in
      let pins = pins_at d x s in
      let next = effect r.op code.bytes pins (past s.cpu) in
      record {
        steps = 1;
        end = moved d x r.cycles (left d code x r s) s;
        run = one_step s r free row-is.0 off;
        goal = h;
        each = λ k one l at.
            let none : k ≡ 0 = omega (arith, l) in
            let here : Some (world_at x s) ≡ Some one =
            ap (λ i. calm d code.tick code.bytes i (world_at x s)) (sym none) ∙ at in
            let same : world_at x s ≡ one = cc in
            subst (λ (v : World d.State). LetsNone code.bytes v.cpu) same
            (record { row = r; is = row-is.0; closed = taken_closed code.timed r.op taken });
        free = effect_free r.op code.bytes pins (past s.cpu) (taken_closed code.timed r.op taken) free;
        order = omega arith;
        timer_later = λ timed timing room.
            let plain : is_plain r.op ≡ true = ap (λ b. is_taken b r.op) (sym timed) ∙ taken in
            let same = effect_timer r.op code.bytes pins (past s.cpu) plain in
            subst (λ b. IsLater (timer_parts s.cpu) (timer_parts (after_timer b r.cycles pins next)) s.off (s.off + r.cycles))
            (ap (λ k. k.run) same)
            (step_later (timer_parts s.cpu) next r.cycles pins s.off same timing few room);
        over = λ timed timing on.
            let plain : is_plain r.op ≡ true = ap (λ b. is_taken b r.op) (sym timed) ∙ taken in
            let same = effect_timer r.op code.bytes pins (past s.cpu) plain in
            subst (λ b. IsAsking (timer_parts s.cpu) (timer_parts (after_timer b r.cycles pins next)) s.off (s.off + r.cycles))
            (ap (λ k. k.run) same)
            (step_asks (timer_parts s.cpu) next r.cycles pins s.off same timing on few);
      }
