-- Each step leaves bytes bytes, interrupts and timer included.
use Rattle.std.proofs.Common.{◌≡◌, ◌≤◌, ◌<◌, ℕ, ◌+◌, ◌-◌, ◌%◌, List, Bool, true, false, leb, if◌then◌else◌}
use Rattle.std.proofs.Common.{Some, None, All, get_or, refl, subst, arith}
use Rattle.std.proofs.lemmas.Bool.Decides.{nat_tests}
use Rattle.std.specs.declared.option.Option.{Option}
use Rattle.mcs48_isa.specs.declared.operation.Decoded.{Decoded}
use Rattle.mcs48_core.specs.declared.levels.Pins.{Pins}
use Rattle.mcs48_core.specs.declared.processor.Count.{Count}
use Rattle.mcs48_core.specs.declared.processor.Count.TheVariants.{Off, Timer, Counter}
use Rattle.mcs48_core.specs.Cpu.{Cpu}
use Rattle.mcs48_core.specs.Registers.{past}
use Rattle.mcs48_core.specs.Flow.{pushed}
use Rattle.mcs48_core.specs.Timer.{after_timer, counts, prescaler}
use Rattle.mcs48_core.specs.Step.{Stepped, row_at, effect, executed, entered, takes_external, takes_timer, stepped}
use Rattle.mcs48_ranges.specs.Sizes.{IsByte, IsFine, IsFinePins}
use Rattle.mcs48_ranges.proofs.Rows.{Regular, row_regular}
use Rattle.mcs48_ranges.proofs.Parts.{read_byte, with_pc, past_fine}
use Rattle.mcs48_ranges.proofs.Flow.{pushed_fine, effect_fine}

-- the timer
up_byte : (c : Bool) (t : ℕ) → t < 256 → (if c then (t + 1) % 256 else t) < 256
up_byte true t l = omega arith
up_byte false t l = l

over_small : (b : Bool) (n : ℕ) → leb 32 n ≡ b → n < 64 → (if b then n - 32 else n) < 32
over_small true n e l = let le : 32 ≤ n = grind (arith, nat_tests, e) in omega (arith, le, l)
over_small false n e l = grind (arith, nat_tests, e)

pre_small : (before after : Count) (c : ℕ) (m : Cpu) → c ≤ 2 → m.pre < 32 → prescaler before after c m < 32
pre_small Timer Timer c m k l = over_small (leb 32 (m.pre + c)) (m.pre + c) refl (omega (arith, k, l))
pre_small Timer Off c m k l = l
pre_small Timer Counter c m k l = l
pre_small Off after c m k l = l
pre_small Counter after c m k l = l

-- what the timer does in a step of at most two cycles keeps all ranges
pub timer_fine : (before : Count) (c : ℕ) (pins : Pins) (m : Cpu) → c ≤ 2 → IsFine m
    → IsFine (after_timer before c pins m)
timer_fine before c pins m k h = record {
  pc = h.pc;
  a = h.a;
  ram = h.ram;
  long = h.long;
  t = up_byte (counts before m.run c pins.t1 m) m.t h.t;
  pre = pre_small before m.run c m k h.pre;
  p1 = h.p1;
  p2 = h.p2;
  bus = h.bus;
  sp = h.sp;
}

entered_fine : (at : ℕ) (pins : Pins) (m : Cpu) → at < 4096 → IsFine m → IsFine (entered at pins m).cpu
entered_fine at pins m l h =
    timer_fine m.run 2 pins (record (pushed m) { pc = at; svc = true }) (omega arith)
    (with_pc (pushed m) at l (pushed_fine m h))

executed_fine : (bytes : List ℕ) (pins : Pins) (m : Cpu) (next : Stepped) → All IsByte bytes → IsFinePins pins
    → IsFine m
    → (o : Option Decoded) → row_at bytes m.pc ≡ o → executed o bytes pins m ≡ Some next → IsFine next.cpu
executed_fine bytes pins m next b p h None row e = absurd cc
executed_fine bytes pins m next b p h (Some r) row e =
    let s : Regular r =
    row_regular (get_or bytes (m.pc % 2048) 0) (get_or bytes ((m.pc + 1) % 2048) 0) r (read_byte bytes ((m.pc + 1) % 2048) b) row in
    let left = after_timer m.run r.cycles pins (effect r.op bytes pins (past m)) in
    let is : record { cpu = left; cycles = r.cycles } ≡ next = cc in
    subst (λ n. IsFine n.cpu) is
    (timer_fine m.run r.cycles pins (effect r.op bytes pins (past m)) s.few
    (effect_fine r.op bytes pins (past m) b p s.operands (past_fine m h)))

stepped_by : (bytes : List ℕ) (pins : Pins) (m : Cpu) (next : Stepped) → All IsByte bytes → IsFinePins pins → IsFine m
    → (x y : Bool)
    → (elim x as (λ v. Option Stepped) [
      | true ↦ Some (entered 3 pins m)
      | false ↦ elim y as (λ v. Option Stepped)
          [ true ↦ Some (entered 7 pins (record m { rq = false })) | false ↦ executed (row_at bytes m.pc) bytes pins m ]
    ]) ≡ Some next
    → IsFine next.cpu
stepped_by bytes pins m next b p h true y e =
    let is : entered 3 pins m ≡ next = cc in subst (λ n. IsFine n.cpu) is (entered_fine 3 pins m (omega arith) h)
stepped_by bytes pins m next b p h false true e =
    let is : entered 7 pins (record m { rq = false }) ≡ next = cc in subst (λ n. IsFine n.cpu) is
    (entered_fine 7 pins (record m { rq = false }) (omega arith) h)
stepped_by bytes pins m next b p h false false e = executed_fine bytes pins m next b p h (row_at bytes m.pc) refl e

-- each step, interrupts and timer included
pub stepped_fine : (bytes : List ℕ) (pins : Pins) (m : Cpu) (next : Stepped) → All IsByte bytes → IsFinePins pins
    → IsFine m → stepped bytes pins m ≡ Some next → IsFine next.cpu
stepped_fine bytes pins m next b p h e = stepped_by bytes pins m next b p h (takes_external pins m) (takes_timer m) e
