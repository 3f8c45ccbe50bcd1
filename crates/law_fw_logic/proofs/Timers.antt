-- The timer in service: what of it changes as it runs, and what a step leaves.
use Rattle.std.proofs.Common.{◌≡◌, ◌≤◌, ◌<◌, ℕ, suc, zero, ◌+◌, ◌-◌, ◌*◌, ◌%◌, Bool, true, false, ◌&&◌, ◌==◌, nat_le}
use Rattle.std.proofs.Common.{if◌then◌else◌, refl, sym, ◌∙◌, subst, arith}
use Rattle.std.proofs.lemmas.Bool.Decides.{nat_tests}
use Rattle.mcs48_core.specs.declared.processor.Count.TheVariants.{Timer}
use Rattle.mcs48_core.specs.Cpu.{Cpu}

-- T, the prescaler, the timer's flag and request, and the last level of T1
pub record TimerState : Type 0 where
  pub t : ℕ
  pub pre : ℕ
  pub tf : Bool
  pub rq : Bool
  pub last : Bool

pub record IsInRange (b : TimerState) : Type 0 where
  pub t : b.t < 256
  pub pre : b.pre < 32

-- those of a processor; and a processor with them, whose timer runs
abbrev pub timer_of : Cpu → TimerState
timer_of m = record { t = m.t; pre = m.pre; tf = m.tf; rq = m.rq; last = m.last_t1 }

abbrev pub timed : TimerState → Cpu → Cpu
timed b m = record m { run = Timer; t = b.t; pre = b.pre; tf = b.tf; rq = b.rq; last_t1 = b.last }

-- no overflow asks, and none comes in the next two cycles
pub record IsRested (b : TimerState) : Type 0 where
  pub clear : b.rq ≡ false
  pub low : 32 * b.t + b.pre + 2 < 8192

-- at a tick start so many cycles past the overflow
abbrev pub on_time : ℕ → Bool → Bool → TimerState
on_time late tf last = record { t = 0; pre = late + 2; tf = tf; rq = false; last = last }

-- a step of so many cycles, with this level of T1
abbrev pub run_on : ℕ → Bool → TimerState → TimerState
run_on c t1 b = record {
  t = if nat_le 32 (b.pre + c) then (b.t + 1) % 256 else b.t;
  pre = if nat_le 32 (b.pre + c) then b.pre + c - 32 else b.pre + c;
  tf = if nat_le 32 (b.pre + c) && (b.t == 255) then true else b.tf;
  rq = if nat_le 32 (b.pre + c) && (b.t == 255) && true then true else b.rq;
  last = t1;
}

-- what it leaves: the count goes on, or it overflows and asks
pub record RunOn (c : ℕ) (b e : TimerState) : Type 0 where
  pub range : IsInRange e
  pub keeps : b.rq ≡ true → e.rq ≡ true
  pub clear : e.rq ≡ false → (b.rq ≡ false) × (32 * e.t + e.pre ≡ 32 * b.t + b.pre + c)
  pub still : 32 * b.t + b.pre + c < 8192 → e.rq ≡ b.rq
  pub counts : (overflows : ℕ) × (32 * e.t + e.pre + 8192 * overflows ≡ 32 * b.t + b.pre + c)

run_on_by : (c : ℕ) (t1 : Bool) (b : TimerState) → IsInRange b → c ≤ 2 → (x y : Bool) → nat_le 32 (b.pre + c) ≡ x
    → (b.t == 255) ≡ y → RunOn c b (run_on c t1 b)
run_on_by c t1 b r few false y ex ey =
    let less : b.pre + c < 32 = grind (arith, nat_tests, ex) in
    let low : b.t < 256 = r.t in
    let same : (run_on c t1 b).rq ≡ b.rq = rw ex refl in
    let t : (run_on c t1 b).t ≡ b.t = rw ex refl in
    let pre : (run_on c t1 b).pre ≡ b.pre + c = rw ex refl in
    record {
      range = record { t = omega (arith, t, low); pre = omega (arith, pre, less) };
      keeps = λ h. same ∙ h;
      clear = λ h. (sym same ∙ h, omega (arith, t, pre));
      still = λ h. same;
      counts = (0, omega (arith, t, pre));
    }
run_on_by c t1 b r few true false ex ey =
    let more : 32 ≤ b.pre + c = grind (arith, nat_tests, ex) in
    let least : b.pre < 32 = r.pre in
    let low : b.t < 256 = r.t in
    let less : b.t < 255 = grind (arith, nat_tests, ey, low) in
    let same : (run_on c t1 b).rq ≡ b.rq = rw (ex, ey) refl in
    let t : (run_on c t1 b).t ≡ (b.t + 1) % 256 = rw ex refl in
    let pre : (run_on c t1 b).pre ≡ b.pre + c - 32 = rw ex refl in
    record {
      range = record { t = omega (arith, t); pre = omega (arith, pre, least, few) };
      keeps = λ h. same ∙ h;
      clear = λ h. (sym same ∙ h, omega (arith, t, pre, less, more));
      still = λ h. same;
      counts = (0, omega (arith, t, pre, less, more));
    }
run_on_by c t1 b r few true true ex ey =
    let more : 32 ≤ b.pre + c = grind (arith, nat_tests, ex) in
    let least : b.pre < 32 = r.pre in
    let high : b.t ≡ 255 = grind (arith, nat_tests, ey) in
    let asks : (run_on c t1 b).rq ≡ true = rw (ex, ey) refl in
    let t : (run_on c t1 b).t ≡ (b.t + 1) % 256 = rw ex refl in
    let pre : (run_on c t1 b).pre ≡ b.pre + c - 32 = rw ex refl in
    let t : (run_on c t1 b).t ≡ (b.t + 1) % 256 = rw ex refl in
    let pre : (run_on c t1 b).pre ≡ b.pre + c - 32 = rw ex refl in
    record {
      range = record { t = omega (arith, t); pre = omega (arith, pre, least, few) };
      keeps = λ h. asks;
      clear = λ h. absurd (let both : true ≡ false = sym asks ∙ h in cc);
      still = λ h. absurd (omega (arith, high, more, h));
      counts = (1, omega (arith, t, pre, high, more));
    }

-- a step of at most two cycles counts the timer on, and asks for the interrupt if the timer overflows
pub runs_on : (c : ℕ) (t1 : Bool) (b : TimerState) → IsInRange b → c ≤ 2 → RunOn c b (run_on c t1 b)
runs_on c t1 b r few = run_on_by c t1 b r few (nat_le 32 (b.pre + c)) (b.t == 255) refl refl

-- an interrupt that is entered at most a cycle past the overflow
pub soon_entered : (late : ℕ) → late ≤ 1 → (tf last t1 : Bool)
    → run_on 2 t1 (record { t = 0; pre = late; tf = tf; rq = false; last = last }) ≡ on_time late tf t1
soon_entered zero l tf last t1 = refl
soon_entered (suc zero) l tf last t1 = refl
soon_entered (suc (suc n)) l tf last t1 = absurd (omega (arith, l))

-- the tick's first two instructions, of two cycles and one; the second writes T
abbrev pub headed : Bool → Bool → TimerState → TimerState
headed t1 before b = run_on 1 t1 (record (run_on 2 before b) { t = 192 })

-- they leave 2,016 to 2,048 cycles up to the next overflow
pub record Headed (b e : TimerState) : Type 0 where
  pub range : IsInRange e
  pub least : 6144 ≤ 32 * e.t + e.pre
  pub most : 32 * e.t + e.pre ≤ 6176
  pub rested : IsRested b → e.rq ≡ false
  pub prompt : (late : ℕ) → late ≤ 1 → b ≡ on_time late b.tf b.last
      → (32 * e.t + e.pre ≡ 6149 + late) × (e.rq ≡ false)

on_time_headed : (late : ℕ) → late ≤ 1 → (tf last t1 before : Bool)
    → (32 * (headed t1 before (on_time late tf last)).t + (headed t1 before (on_time late tf last)).pre ≡ 6149 + late)
    × ((headed t1 before (on_time late tf last)).rq ≡ false)
on_time_headed zero l tf last t1 before = (refl, refl)
on_time_headed (suc zero) l tf last t1 before = (refl, refl)
on_time_headed (suc (suc n)) l tf last t1 before = absurd (omega (arith, l))

head_least : (t1 before : Bool) (b : TimerState) → (run_on 2 before b).pre < 32 → (x : Bool)
    → nat_le 32 ((run_on 2 before b).pre + 1) ≡ x
    → 6144 ≤ 32 * (headed t1 before b).t + (headed t1 before b).pre
head_least t1 before b low false e =
    let t : (headed t1 before b).t ≡ 192 = rw e refl in omega (arith, t)
head_least t1 before b low true e =
    let t : (headed t1 before b).t ≡ 193 = rw e refl in omega (arith, t)

head_most : (t1 before : Bool) (b : TimerState) → (run_on 2 before b).pre < 32 → (x : Bool)
    → nat_le 32 ((run_on 2 before b).pre + 1) ≡ x
    → 32 * (headed t1 before b).t + (headed t1 before b).pre ≤ 6176
head_most t1 before b low false e =
    let t : (headed t1 before b).t ≡ 192 = rw e refl in
    let pre : (headed t1 before b).pre ≡ (run_on 2 before b).pre + 1 = rw e refl in
    let less : (run_on 2 before b).pre + 1 < 32 = grind (arith, nat_tests, e) in omega (arith, t, pre, less)
head_most t1 before b low true e =
    let t : (headed t1 before b).t ≡ 193 = rw e refl in
    let pre : (headed t1 before b).pre ≡ (run_on 2 before b).pre + 1 - 32 = rw e refl in omega (arith, t, pre, low)

-- the tick's first two instructions leave 2,016 to 2,048 cycles up to the next overflow
pub heads_timer : (t1 before : Bool) (b : TimerState) → IsInRange b → Headed b (headed t1 before b)
heads_timer t1 before b r =
    let two = runs_on 2 before b r (omega arith) in
    let set : TimerState = record (run_on 2 before b) { t = 192 } in
    let one = runs_on 1 t1 set (record { t = omega arith; pre = two.range.pre }) (omega arith) in
    record {
      range = one.range;
      least = head_least t1 before b two.range.pre (nat_le 32 ((run_on 2 before b).pre + 1)) refl;
      most = head_most t1 before b two.range.pre (nat_le 32 ((run_on 2 before b).pre + 1)) refl;
      rested = λ rest.
          let low : (run_on 2 before b).pre < 32 = two.range.pre in
          let later : (run_on 1 t1 set).rq ≡ set.rq = one.still (omega (arith, low)) in
          later ∙ two.still rest.low ∙ rest.clear;
      prompt = λ late few is.
          subst (λ c. (32 * (headed t1 before c).t + (headed t1 before c).pre ≡ 6149 + late)
          × ((headed t1 before c).rq ≡ false)) (sym is) (on_time_headed late few b.tf b.last t1 before);
    }
