-- A jump to where the processor is changes the timer alone.
use Rattle.std.proofs.Common.{◌≡◌, ◌<◌, ℕ, ◌+◌, ◌*◌, ◌-◌, ◌/◌, ◌%◌, Bool, true, false, ◌&&◌, not, List, Some, refl, ap, sym, ◌∙◌, arith}
use Rattle.std.specs.Prelude.{if◌then◌else◌, nat_le, ◌==◌}
use Rattle.std.specs.declared.option.Option.{Option}
use Rattle.std.proofs.lemmas.Bool.Decides.{nat_tests}
use Rattle.mcs48_isa.specs.declared.operation.FlowOp.TheVariants.{Jmp}
use Rattle.mcs48_isa.specs.declared.operation.Op.TheVariants.{Flow}
use Rattle.mcs48_core.specs.declared.levels.Pins.{Pins}
use Rattle.mcs48_core.specs.declared.processor.Count.{Count}
use Rattle.mcs48_core.specs.declared.processor.Count.TheVariants.{Off, Timer, Counter}
use Rattle.mcs48_core.specs.Cpu.{Cpu}
use Rattle.mcs48_core.specs.Flow.{bank_bit}
use Rattle.mcs48_core.specs.Leap.{elapsed, spun}
use Rattle.mcs48_core.specs.Step.{Stepped, executed, row_at, stepped, entered, takes_external, takes_timer}
use Rattle.mcs48_core.specs.Timer.{after_timer}

-- the processor with this timer
abbrev timed : Cpu → Count → ℕ → ℕ → Bool → Bool → Bool → Cpu
timed m run t pre tf rq level = record m { run = run; t = t; pre = pre; tf = tf; rq = rq; last_t1 = level }

same_timed : (m : Cpu) (run : Count) (t t' pre pre' : ℕ) (tf tf' rq rq' level level' : Bool)
    → t ≡ t' → pre ≡ pre' → tf ≡ tf' → rq ≡ rq' → level ≡ level'
    → timed m run t pre tf rq level ≡ timed m run t' pre' tf' rq' level'
same_timed m run t t' pre pre' tf tf' rq rq' level level' a b c d e =
    ap (λ v. timed m run v pre tf rq level) a ∙ ap (λ v. timed m run t' v tf rq level) b ∙ ap (λ v. timed m run t' pre' v rq level) c
    ∙ ap (λ v. timed m run t' pre' tf' v level) d ∙ ap (λ v. timed m run t' pre' tf' rq' v) e

whole : (t pre : ℕ) → pre < 32 → (32 * t + pre) / 32 ≡ t
whole t pre below = omega arith

rest : (t pre : ℕ) → pre < 32 → (32 * t + pre) % 32 ≡ pre
rest t pre below = omega arith

no_more : (e : ℕ) → e + 2 * 0 ≡ e
no_more e = omega arith

-- no jump was made yet
none_by : (run : Count) (m : Cpu)
    → m.pre < 32 → timed m run (elapsed run 0 m / 32) (elapsed run 0 m % 32) m.tf m.rq m.last_t1 ≡ record m { run = run }
none_by Off m below =
    same_timed m Off _ m.t _ m.pre m.tf m.tf m.rq m.rq m.last_t1 m.last_t1 (whole m.t m.pre below) (rest m.t m.pre below) refl refl refl
none_by Timer m below =
    same_timed m Timer _ m.t _ m.pre m.tf m.tf m.rq m.rq m.last_t1 m.last_t1
    (ap (λ n. n / 32) (no_more (32 * m.t + m.pre)) ∙ whole m.t m.pre below)
    (ap (λ n. n % 32) (no_more (32 * m.t + m.pre)) ∙ rest m.t m.pre below) refl refl refl
none_by Counter m below =
    same_timed m Counter _ m.t _ m.pre m.tf m.tf m.rq m.rq m.last_t1 m.last_t1 (whole m.t m.pre below) (rest m.t m.pre below) refl refl refl

-- zero turns of a jump to itself change nothing
pub none_spun : (m : Cpu) → m.pre < 32 → spun 0 m ≡ m
none_spun m below = none_by m.run m below

-- two cycles more on a number of cycles that stays below the overflow
module _ (e : ℕ) (short : e + 2 < 8192) where
  abbrev over : Bool
  over = nat_le 32 (e % 32 + 2)

  next_t : (if over then (e / 32 + 1) % 256 else e / 32) ≡ (e + 2) / 32
  next_t = grind (arith, nat_tests, short)

  next_pre : (if over then e % 32 + 2 - 32 else e % 32 + 2) ≡ (e + 2) % 32
  next_pre = grind (arith, nat_tests, short)

  not_full : (over && (e / 32 == 255)) ≡ false
  not_full = grind (arith, nat_tests, short)

stays_low : (a b : Bool) → a ≡ b → (a && not b) ≡ false
stays_low true true h = refl
stays_low true false h = absurd (cc h)
stays_low false b h = refl

more_by : (t pre n : ℕ) → 32 * t + pre + 2 * (n + 1) ≡ 32 * t + pre + 2 * n + 2
more_by t pre n = omega arith

-- one jump more, by how the timer runs
turn : (run : Count) (n : ℕ) (pins : Pins) (m : Cpu) → m.last_t1 ≡ pins.t1 → (run ≡ Timer → elapsed Timer (n + 1) m < 8192)
    → after_timer run 2 pins (timed m run (elapsed run n m / 32) (elapsed run n m % 32) m.tf m.rq m.last_t1)
    ≡ timed m run (elapsed run (n + 1) m / 32) (elapsed run (n + 1) m % 32) m.tf m.rq m.last_t1
turn Off n pins m level short = ap (λ b. timed m Off ((32 * m.t + m.pre) / 32) ((32 * m.t + m.pre) % 32) m.tf m.rq b) (sym level)
turn Counter n pins m level short =
    let e : ℕ = 32 * m.t + m.pre in
    ap (λ b. timed m Counter (if b then (e / 32 + 1) % 256 else e / 32) (e % 32) (if b && (e / 32 == 255) then true else m.tf)
    (if b && (e / 32 == 255) && m.tim_on then true else m.rq) pins.t1) (stays_low m.last_t1 pins.t1 level)
    ∙ ap (λ b. timed m Counter (e / 32) (e % 32) m.tf m.rq b) (sym level)
turn Timer n pins m level short =
    let e : ℕ = 32 * m.t + m.pre + 2 * n in
    let more : elapsed Timer (n + 1) m ≡ e + 2 = more_by m.t m.pre n in
    let below : e + 2 < 8192 = let s = short refl in omega (arith, s, more) in
    same_timed m Timer _ (elapsed Timer (n + 1) m / 32) _ (elapsed Timer (n + 1) m % 32) _ m.tf _ m.rq pins.t1 m.last_t1
    (next_t e below ∙ ap (λ v. v / 32) (sym more)) (next_pre e below ∙ ap (λ v. v % 32) (sym more))
    (ap (λ b. if b then true else m.tf) (not_full e below))
    (ap (λ b. if b && m.tim_on then true else m.rq) (not_full e below)) (sym level)

-- the next step is such a jump: no interrupt is taken, the JMP at the counter leads there, and T1 is as at the last
-- step
pub record IsInPlace (bytes : List ℕ) (pins : Pins) (m : Cpu) : Type 0 where
  pub no_external : takes_external pins m ≡ false
  pub no_timer : takes_timer m ≡ false
  pub to : ℕ
  pub row : row_at bytes m.pc ≡ Some (record { op = Flow (Jmp to); len = 2; cycles = 2 })
  pub place : 2048 * bank_bit m + to ≡ m.pc
  pub level : m.last_t1 ≡ pins.t1

-- each of the jumps before the overflow is a step
pub step_in_place : (bytes : List ℕ) (pins : Pins) (m : Cpu) (n : ℕ)
    → IsInPlace bytes pins m → (m.run ≡ Timer → elapsed Timer (n + 1) m < 8192)
    → stepped bytes pins (spun n m) ≡ Some (record { cpu = spun (n + 1) m; cycles = 2 })
step_in_place bytes pins m n h short =
    let s : Cpu = spun n m in
    ap (λ b. elim b as (λ v. Option Stepped) [
      | true ↦ Some (entered 3 pins s)
      | false ↦ elim (takes_timer s) as (λ v. Option Stepped) [
        | true ↦ Some (entered 7 pins (record s { rq = false }))
        | false ↦ executed (row_at bytes s.pc) bytes pins s
      ]
    ]) h.no_external
    ∙ ap (λ b. elim b as (λ v. Option Stepped) [
      | true ↦ Some (entered 7 pins (record s { rq = false }))
      | false ↦ executed (row_at bytes s.pc) bytes pins s
    ]) h.no_timer
    ∙ ap (λ r. executed r bytes pins s) h.row
    ∙ ap (λ pc. Some (record { cpu = after_timer m.run 2 pins (record s { pc = pc }); cycles = 2 })) h.place
    ∙ ap (λ c. Some (record { cpu = c; cycles = 2 })) (turn m.run n pins m h.level short)

-- so many jumps, of which the last one is before the overflow
pub all_steps : (bytes : List ℕ) (pins : Pins) (m : Cpu) (count : ℕ)
    → IsInPlace bytes pins m → (m.run ≡ Timer → elapsed Timer count m < 8192)
    → (j : ℕ) → j < count → stepped bytes pins (spun j m) ≡ Some (record { cpu = spun (j + 1) m; cycles = 2 })
all_steps bytes pins m count h short j below = step_in_place bytes pins m j h (λ on. let s = short on in omega (arith, s, below))
