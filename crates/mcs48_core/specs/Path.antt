-- Paths of steps, and the law of one: the definitions compute over a concrete program from a state that is unknown
-- but for the parts that decide where the program goes.
use Rattle.std.specs.Prelude.{◌≡◌, ℕ, zero, suc, ◌+◌, ◌*◌, ◌%◌, true, false, nat_le, bit_and, bit_xor, List, []}
use Rattle.std.specs.Prelude.{◌∷◌, slice_set, Some, None}
use Rattle.std.specs.declared.option.Option.{Option}
use Rattle.mcs48_core.specs.declared.levels.Pins.{Pins}
use Rattle.mcs48_core.specs.declared.processor.Count.TheVariants.{Off}
use Rattle.mcs48_core.specs.Cpu.{Cpu}
use Rattle.bits.specs.Bits.{bit}
use Rattle.mcs48_core.specs.Status.{digit}
use Rattle.mcs48_core.specs.Step.{Stepped, stepped}

-- so many steps, from a state and the cycles before it
abbrev pub path : ℕ → List ℕ → Pins → Stepped → Option Stepped
path zero bytes pins s = Some s
path (suc n) bytes pins s =
    elim (stepped bytes pins s.cpu) [
      | None ↦ None
      | Some next ↦ path n bytes pins (record { cpu = next.cpu; cycles = s.cycles + next.cycles })
    ]

-- memory with a value for each of so many places from one on
abbrev pub cells : (ℕ → ℕ) → ℕ → ℕ → List ℕ
cells f at zero = []
cells f at (suc n) = f at ∷ cells f (at + 1) n

-- the program; past its end there are zeros
abbrev pub program : List ℕ
program =
    -- 00: MOV A,#1; ADD A,#1; CLR F0; CALL 30H; MOV R0,#20H; MOV A,R3; MOV @R0,A; ADD A,R4; MOV R2,A; RLC A; XRL A,#55H
    35 ∷ 1 ∷ 3 ∷ 1 ∷ 133 ∷ 20 ∷ 48 ∷ 184 ∷ 32 ∷ 251 ∷ 160 ∷ 108 ∷ 170 ∷ 247 ∷ 211 ∷ 85 ∷
    -- 10: OUTL P1,A; ANL P2,#0FBH; INS A,BUS; XCH A,R5; STRT T; MOV A,T; EN I; DIS I; MOV A,#40H; MOVP A,@A; JMPP @A;
    -- a table at 1E
    57 ∷ 154 ∷ 251 ∷ 8 ∷ 45 ∷ 85 ∷ 66 ∷ 5 ∷ 21 ∷ 35 ∷ 64 ∷ 163 ∷ 179 ∷ 0 ∷ 32 ∷ 0 ∷
    -- 20: INC A; JB0 26H; at 26: JNZ 28H; CPL F0; JF0 2BH; STOP TCNT; NOP
    23 ∷ 18 ∷ 38 ∷ 0 ∷ 0 ∷ 0 ∷ 150 ∷ 40 ∷ 149 ∷ 182 ∷ 43 ∷ 101 ∷ 0 ∷ 0 ∷ 0 ∷ 0 ∷
    -- 30: SEL RB1; MOV R0,#3; DJNZ R0,33H; SEL RB0; RET; a table at 40
    213 ∷ 184 ∷ 3 ∷ 232 ∷ 51 ∷ 197 ∷ 131 ∷ 0 ∷ 0 ∷ 0 ∷ 0 ∷ 0 ∷ 0 ∷ 0 ∷ 0 ∷ 0 ∷ 30 ∷ []

-- a processor at the program's start, with an unknown memory; the accumulator, the flags, the timer and the latches are
-- unknown too
abbrev pub at_start : (ℕ → ℕ) → Cpu → Cpu
at_start f m = record m {
  pc = 0;
  rb = false;
  sp = 0;
  mb = false;
  ram = cells f 0 128;
  run = Off;
  ext_on = false;
  tim_on = false;
  svc = false;
}

-- the memory after the path: both banks' R0, R2, R5, the stack's first entry, and the place that R0 points to
abbrev pub ram_at_end : (ℕ → ℕ) → Pins → List ℕ
ram_at_end f pins =
    let start = cells f 0 128 in
    let registers = slice_set (slice_set (slice_set start 0 32) 2 ((f 3 + f 4) % 256)) 5 pins.bus in
    slice_set (slice_set (slice_set (slice_set registers 8 7) 9 0) 24 0) 32 (f 3)

-- the processor after the path
abbrev pub at_end : (ℕ → ℕ) → Pins → Cpu → Cpu
at_end f pins m =
    let sum = (f 3 + f 4) % 256 in
    record (at_start f m) {
      pc = 45;
      a = 31;
      c = bit 7 sum;
      ac = nat_le 16 (f 3 % 16 + f 4 % 16);
      f0 = true;
      ram = ram_at_end f pins;
      pre = 17;
      p1 = bit_xor ((2 * sum + digit (nat_le 256 (f 3 + f 4))) % 256) 85;
      p2 = bit_and m.p2 251;
      last_t1 = pins.t1;
    }

-- 36 steps of 55 cycles, from any such state and with any levels but that INT is high
abbrev pub PathLaw : Type 0
PathLaw = (f : ℕ → ℕ) (pins : Pins) (m : Cpu)
    → path 36 program (record pins { int_pin = true }) (record { cpu = at_start f m; cycles = 0 })
    ≡ Some (record { cpu = at_end f pins m; cycles = 55 })
