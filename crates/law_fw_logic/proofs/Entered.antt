-- A tick start as the processor that the interrupt's entry leaves.
use Rattle.std.proofs.Common.{◌≡◌, ◌≤◌, ℕ, ◌+◌, ◌-◌, Bool, true, false, List, length, drop, slice_index, refl, ap, ◌∙◌, arith}
use Rattle.mcs48_core.specs.Cpu.{Cpu}
use Rattle.mcs48_core.specs.declared.processor.Count.TheVariants.{Timer}
use Rattle.fw_kernel.specs.declared.labels.TheConstants.{TICK, WAIT}
use Rattle.law_fw_logic.specs.Ticks.{IsEntered}
use Rattle.law_fw_logic.proofs.Block.{memory, put}
use Rattle.law_fw_logic.proofs.BlockLaws.{cells_of}
use Rattle.law_fw_logic.proofs.Memory.{memory_is}
use Rattle.law_fw_logic.proofs.Service.{serving, stacked, entering, begun}
use Rattle.law_fw_logic.proofs.Timers.{TimerState, timer_of, on_time}

-- memory with the way back on the stack
pub way_back : (f : ℕ → ℕ) (ring : List ℕ) → f 8 ≡ WAIT → f 9 ≡ 16 → memory f ring ≡ memory (stacked f) ring
way_back f ring low high = ap (λ u. memory (put f 8 u) ring) low ∙ ap (λ u. memory (put (put f 8 WAIT) 9 u) ring) high

-- a tick start, however late: as one that is entered in time, whatever the timer and its request are
pub record IsServed (m : Cpu) : Type 0 where
  pub pc : m.pc ≡ TICK
  pub bank : m.rb ≡ true
  pub depth : m.sp ≡ 1
  pub lower : m.mb ≡ false
  pub external : m.ext_on ≡ false
  pub enabled : m.tim_on ≡ true
  pub serves : m.svc ≡ true
  pub carry : m.c ≡ false
  pub half : m.ac ≡ false
  pub flag : m.f0 ≡ false
  pub run : m.run ≡ Timer
  pub back : slice_index m.ram 8 ≡ WAIT
  pub status : slice_index m.ram 9 ≡ 16
  pub memory : length m.ram ≡ 128

-- a tick start that comes in time has just entered the service, with clear flags
pub entered_served : (m : Cpu) → IsEntered m → IsServed m
entered_served m s = record {
  pc = s.pc;
  bank = s.bank;
  depth = s.depth;
  lower = s.lower;
  external = s.external;
  enabled = s.enabled;
  serves = s.serves;
  carry = s.carry;
  half = s.half;
  flag = s.flag;
  run = s.run;
  back = s.back;
  status = s.status;
  memory = s.memory;
}

-- it is one that enters
pub entering_is : (m : Cpu) → IsServed m → m ≡ entering (timer_of m) (cells_of m.ram) (drop 112 m.ram) m
entering_is m s =
    let f : ℕ → ℕ = cells_of m.ram in
    let ring : List ℕ = drop 112 m.ram in
    let at : Cpu = serving TICK (stacked f) ring m in
    let ram : m.ram ≡ memory (stacked f) ring = memory_is m.ram s.memory ∙ way_back f ring s.back s.status in
    ap (λ v. record m { pc = v }) s.pc
    ∙ ap (λ v. record m { pc = TICK; rb = v }) s.bank
    ∙ ap (λ v. record m { pc = TICK; rb = true; sp = v }) s.depth
    ∙ ap (λ v. record m { pc = TICK; rb = true; sp = 1; mb = v }) s.lower
    ∙ ap (λ v. record m { pc = TICK; rb = true; sp = 1; mb = false; ext_on = v }) s.external
    ∙ ap (λ v. record m { pc = TICK; rb = true; sp = 1; mb = false; ext_on = false; tim_on = v }) s.enabled
    ∙ ap (λ v. record m { pc = TICK; rb = true; sp = 1; mb = false; ext_on = false; tim_on = true; svc = v }) s.serves
    ∙ ap (λ v. record m {
      pc = TICK;
      rb = true;
      sp = 1;
      mb = false;
      ext_on = false;
      tim_on = true;
      svc = true;
      ram = v;
    }) ram
    ∙ ap (λ v. record at { c = v }) s.carry
    ∙ ap (λ v. record at { c = false; ac = v }) s.half
    ∙ ap (λ v. record at { c = false; ac = false; f0 = v }) s.flag
    ∙ ap (λ v. record at { c = false; ac = false; f0 = false; run = v }) s.run

-- the processor at a tick start, whatever its timer, has just entered the service from WAIT
pub served_is : (b : TimerState) (f : ℕ → ℕ) (ring : List ℕ) (m : Cpu) → length (memory (stacked f) ring) ≡ 128
    → IsServed (entering b f ring m)
served_is b f ring m long = record {
  pc = refl;
  bank = refl;
  depth = refl;
  lower = refl;
  external = refl;
  enabled = refl;
  serves = refl;
  carry = refl;
  half = refl;
  flag = refl;
  run = refl;
  back = refl;
  status = refl;
  memory = long;
}

-- the timer of one in time
pub timer_is : (m : Cpu) → IsEntered m → timer_of m ≡ on_time (m.pre - 2) m.tf m.last_t1
timer_is m s =
    let pre : m.pre ≡ m.pre - 2 + 2 = (let l : 2 ≤ m.pre = s.early in omega (arith, l)) in
    let b : TimerState = timer_of m in
    ap (λ v. record b { t = v }) s.t
    ∙ ap (λ v. record b { t = 0; pre = v }) pre
    ∙ ap (λ v. record b { t = 0; pre = m.pre - 2 + 2; rq = v }) s.clear

-- and the other way round
pub entered_is : (late : ℕ) → late ≤ 1 → (tf last : Bool) (f : ℕ → ℕ) (ring : List ℕ) (m : Cpu)
    → length (memory (stacked f) ring) ≡ 128 → IsEntered (begun late tf last f ring m)
entered_is late few tf last f ring m long = record {
  pc = refl;
  bank = refl;
  depth = refl;
  lower = refl;
  external = refl;
  enabled = refl;
  serves = refl;
  carry = refl;
  half = refl;
  flag = refl;
  run = refl;
  t = refl;
  early = omega arith;
  late = omega (arith, few);
  clear = refl;
  back = refl;
  status = refl;
  memory = long;
}
