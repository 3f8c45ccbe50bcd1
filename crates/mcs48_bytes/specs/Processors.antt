-- The processor's bytes.
use Rattle.std.specs.Prelude.{ℕ, ◌/◌, ◌%◌, Bool, ◌==◌, ◌&&◌, nat_lt, if◌then◌else◌, List, [], ◌∷◌, ◌++◌, slice_index, Some, None}
use Rattle.std.specs.declared.option.Option.{Option}
use Rattle.std.specs.Int.{w16, to_le_bytes, from_bool}
use Rattle.bits.specs.Bits.{bit}
use Rattle.mcs48_core.specs.Cpu.{Cpu}
use Rattle.mcs48_core.specs.Status.{psw_of}
use Rattle.mcs48_core.specs.declared.processor.Count.{Count}
use Rattle.mcs48_core.specs.declared.processor.Count.TheVariants.{Off, Timer, Counter}
use Rattle.mcs48_bytes.specs.Numbers.{truth_at, word_at}

-- how the timer runs: 0 not at all, 1 on the machine cycles, 2 on the falls of T1
abbrev pub count_byte : Count → ℕ
count_byte Off = 0
count_byte Timer = 1
count_byte Counter = 2

abbrev pub count_by : ℕ → Count
count_by n = if n == 0 then Off else if n == 1 then Timer else Counter

-- the processor's 19 bytes: the counter (2 bytes), A, the status byte, flag 1, the bank of the next jump, the timer, the
-- prescaler, the timer flag, how the timer runs, which interrupts are enabled, a timer request, an interrupt in
-- service, the latches of port 1, port 2 and the bus, the clock output, and the last level of T1
abbrev pub processor_bytes : Cpu → List ℕ
processor_bytes m =
    to_le_bytes w16 m.pc
    ++ m.a ∷ psw_of m ∷ from_bool m.f1 ∷ from_bool m.mb ∷ m.t ∷ m.pre ∷ from_bool m.tf ∷ count_byte m.run
    ∷ from_bool m.ext_on ∷ from_bool m.tim_on ∷ from_bool m.rq ∷ from_bool m.svc ∷ m.p1 ∷ m.p2 ∷ m.bus
    ∷ from_bool m.clk ∷ from_bool m.last_t1 ∷ []

-- the counter has 12 bits, the prescaler 5, and bit 3 of the status byte is 1
abbrev pub processor_fits : List ℕ → Bool
processor_fits s = nat_lt (word_at 0 s) 4096 && nat_lt (slice_index s 7) 32 && (slice_index s 3 / 8 % 2 == 1)

-- the processor that these bytes mean, with this data memory
abbrev pub processor_by : List ℕ → List ℕ → Cpu
processor_by s ram = record {
  pc = word_at 0 s;
  a = slice_index s 2;
  c = bit 7 (slice_index s 3);
  ac = bit 6 (slice_index s 3);
  f0 = bit 5 (slice_index s 3);
  rb = bit 4 (slice_index s 3);
  sp = slice_index s 3 % 8;
  f1 = truth_at 4 s;
  mb = truth_at 5 s;
  ram = ram;
  t = slice_index s 6;
  pre = slice_index s 7;
  tf = truth_at 8 s;
  run = count_by (slice_index s 9);
  ext_on = truth_at 10 s;
  tim_on = truth_at 11 s;
  rq = truth_at 12 s;
  svc = truth_at 13 s;
  p1 = slice_index s 14;
  p2 = slice_index s 15;
  bus = slice_index s 16;
  clk = truth_at 17 s;
  last_t1 = truth_at 18 s;
}

abbrev pub processor_in : List ℕ → List ℕ → Option Cpu
processor_in s ram = if processor_fits s then Some (processor_by s ram) else None
