-- The processor is read from its bytes.
use Rattle.std.proofs.Common.{◌≡◌, ◌<◌, ◌^◌, ◌+◌, ◌*◌, ◌/◌, ◌%◌, ◌==◌, ◌&&◌, ℕ, Bool, true, false, List, Some, None, refl, ap, sym, ◌∙◌, subst, arith}
use Rattle.std.specs.Prelude.{nat_lt, if◌then◌else◌}
use Rattle.std.specs.Int.{w16, to_le_bytes, from_le_bytes}
use Rattle.std.proofs.lemmas.Bool.Decides.{nat_tests}
use Rattle.std.proofs.lemmas.Nat.{from_le_bytes-to_le_bytes_2}
use Rattle.bits.proofs.Every.{at_each, both, same, same_is, same_of}
use Rattle.bits.specs.Bits.{bit}
use Rattle.mcs48_core.specs.Cpu.{Cpu}
use Rattle.mcs48_core.specs.Status.{digit, psw_of}
use Rattle.mcs48_core.specs.declared.processor.Count.{Count}
use Rattle.mcs48_core.specs.declared.processor.Count.TheVariants.{Off, Timer, Counter}
use Rattle.mcs48_bytes.proofs.Choices.{truth_read}
use Rattle.mcs48_bytes.specs.Processors.{count_by, count_byte, processor_by, processor_bytes, processor_fits, processor_in}

-- the status byte of these flags and this stack pointer
abbrev status_by : Bool → Bool → Bool → Bool → ℕ → ℕ
status_by c ac f0 rb sp = 16 * (8 * digit c + 4 * digit ac + 2 * digit f0 + digit rb) + 8 + sp

abbrev reads_pointer : ℕ → ℕ → Bool
reads_pointer sp b = (b % 8 == sp) && (b / 8 % 2 == 1)

abbrev reads_bank : Bool → ℕ → ℕ → Bool
reads_bank rb sp b = same (bit 4 b) rb && reads_pointer sp b

abbrev reads_flag_0 : Bool → Bool → ℕ → ℕ → Bool
reads_flag_0 f0 rb sp b = same (bit 5 b) f0 && reads_bank rb sp b

abbrev reads_half : Bool → Bool → Bool → ℕ → ℕ → Bool
reads_half ac f0 rb sp b = same (bit 6 b) ac && reads_flag_0 f0 rb sp b

abbrev reads_all : Bool → Bool → Bool → Bool → ℕ → ℕ → Bool
reads_all c ac f0 rb sp b = same (bit 7 b) c && reads_half ac f0 rb sp b

abbrev reads_flags : Bool → Bool → Bool → Bool → ℕ → Bool
reads_flags c ac f0 rb sp = reads_all c ac f0 rb sp (status_by c ac f0 rb sp)

flags_read : (c ac f0 rb : Bool) (sp : ℕ) → sp < 8 → reads_flags c ac f0 rb sp ≡ true
flags_read true true true true sp l = at_each (reads_flags true true true true) 8 refl sp l
flags_read true true true false sp l = at_each (reads_flags true true true false) 8 refl sp l
flags_read true true false true sp l = at_each (reads_flags true true false true) 8 refl sp l
flags_read true true false false sp l = at_each (reads_flags true true false false) 8 refl sp l
flags_read true false true true sp l = at_each (reads_flags true false true true) 8 refl sp l
flags_read true false true false sp l = at_each (reads_flags true false true false) 8 refl sp l
flags_read true false false true sp l = at_each (reads_flags true false false true) 8 refl sp l
flags_read true false false false sp l = at_each (reads_flags true false false false) 8 refl sp l
flags_read false true true true sp l = at_each (reads_flags false true true true) 8 refl sp l
flags_read false true true false sp l = at_each (reads_flags false true true false) 8 refl sp l
flags_read false true false true sp l = at_each (reads_flags false true false true) 8 refl sp l
flags_read false true false false sp l = at_each (reads_flags false true false false) 8 refl sp l
flags_read false false true true sp l = at_each (reads_flags false false true true) 8 refl sp l
flags_read false false true false sp l = at_each (reads_flags false false true false) 8 refl sp l
flags_read false false false true sp l = at_each (reads_flags false false false true) 8 refl sp l
flags_read false false false false sp l = at_each (reads_flags false false false false) 8 refl sp l

-- flags, bank and stack pointer are read from the status byte, whose bit 3 is 1
record AreRead (m : Cpu) : Type 0 where
  c : bit 7 (psw_of m) ≡ m.c
  ac : bit 6 (psw_of m) ≡ m.ac
  f0 : bit 5 (psw_of m) ≡ m.f0
  rb : bit 4 (psw_of m) ≡ m.rb
  sp : psw_of m % 8 ≡ m.sp
  one : (psw_of m / 8 % 2 == 1) ≡ true

are_read : (m : Cpu) → m.sp < 8 → AreRead m
are_read m few =
    let b : ℕ = psw_of m in
    let t = both (same (bit 7 b) m.c) (reads_half m.ac m.f0 m.rb m.sp b) (flags_read m.c m.ac m.f0 m.rb m.sp few) in
    let u = both (same (bit 6 b) m.ac) (reads_flag_0 m.f0 m.rb m.sp b) t.1 in
    let v = both (same (bit 5 b) m.f0) (reads_bank m.rb m.sp b) u.1 in
    let w = both (same (bit 4 b) m.rb) (reads_pointer m.sp b) v.1 in
    let x = both (b % 8 == m.sp) (b / 8 % 2 == 1) w.1 in
    record {
      c = same_is (bit 7 b) m.c t.0;
      ac = same_is (bit 6 b) m.ac u.0;
      f0 = same_is (bit 5 b) m.f0 v.0;
      rb = same_is (bit 4 b) m.rb w.0;
      sp = same_of (b % 8) m.sp x.0;
      one = x.1;
    }

count_read : (r : Count) → count_by (count_byte r) ≡ r
count_read Off = refl
count_read Timer = refl
count_read Counter = refl

by_read : (m : Cpu) → m.pc < 4096 → m.sp < 8 → processor_by (processor_bytes m) m.ram ≡ m
by_read m pc sp =
    let counter : from_le_bytes w16 (to_le_bytes w16 m.pc) ≡ m.pc = from_le_bytes-to_le_bytes_2 m.pc (omega (arith, pc)) in
    let r = are_read m sp in
    λ i. record {
      pc = counter i;
      a = m.a;
      c = r.c i;
      ac = r.ac i;
      f0 = r.f0 i;
      rb = r.rb i;
      sp = r.sp i;
      f1 = truth_read m.f1 i;
      mb = truth_read m.mb i;
      ram = m.ram;
      t = m.t;
      pre = m.pre;
      tf = truth_read m.tf i;
      run = count_read m.run i;
      ext_on = truth_read m.ext_on i;
      tim_on = truth_read m.tim_on i;
      rq = truth_read m.rq i;
      svc = truth_read m.svc i;
      p1 = m.p1;
      p2 = m.p2;
      bus = m.bus;
      clk = truth_read m.clk i;
      last_t1 = truth_read m.last_t1 i;
    }

all_three : (a b c : Bool) → a ≡ true → b ≡ true → c ≡ true → (a && b && c) ≡ true
all_three true true true p q r = refl
all_three false b c p q r = absurd cc
all_three true false c p q r = absurd cc
all_three true true false p q r = absurd cc

fits : (m : Cpu) → m.pc < 4096 → m.pre < 32 → m.sp < 8 → processor_fits (processor_bytes m) ≡ true
fits m pc pre sp =
    let counter : from_le_bytes w16 (to_le_bytes w16 m.pc) ≡ m.pc = from_le_bytes-to_le_bytes_2 m.pc (omega (arith, pc)) in
    let near : nat_lt m.pc 4096 ≡ true = grind (arith, nat_tests, pc) in
    let few : nat_lt m.pre 32 ≡ true = grind (arith, nat_tests, pre) in
    let r = are_read m sp in
    all_three _ _ _ (ap (λ n. nat_lt n 4096) counter ∙ near) few r.one

-- a processor is read from its bytes
pub processor_read : (s : List ℕ) (m : Cpu) → s ≡ processor_bytes m → m.pc < 4096 → m.pre < 32 → m.sp < 8
    → processor_in s m.ram ≡ Some m
processor_read s m e pc pre sp =
    ap (λ x. processor_in x m.ram) e
    ∙ ap (λ (b : Bool). if b then Some (processor_by (processor_bytes m) m.ram) else None) (fits m pc pre sp)
    ∙ ap Some (by_read m pc sp)
