-- How a processor is kept: the flags, the bank and the stack pointer in one byte.
use Rattle.std.specs.Prelude.{◌≡◌, ◌<◌, ◌/◌, ◌%◌}
use Rattle.mcs48_core.specs.declared.processor.Mcu.TheInside.{Inside}
use Rattle.mcs48_core.specs.Cpu.{Cpu}
use Rattle.bits.specs.Bits.{bit}

-- the processor that the fields stand for
abbrev pub cpu_of : Inside → Cpu
cpu_of m = record {
  pc = m.pc;
  a = m.a;
  c = bit 7 m.psw;
  ac = bit 6 m.psw;
  f0 = bit 5 m.psw;
  rb = bit 4 m.psw;
  sp = m.psw % 8;
  f1 = m.f1;
  mb = m.mb;
  ram = m.ram;
  t = m.t;
  pre = m.pre;
  tf = m.tf;
  run = m.run;
  ext_on = m.ext_on;
  tim_on = m.tim_on;
  rq = m.rq;
  svc = m.svc;
  p1 = m.p1;
  p2 = m.p2;
  bus = m.bus;
  clk = m.clk;
  last_t1 = m.last_t1;
}

-- the program counter has 12 bits, the prescaler counts to 32, and bit 3 of the status byte is 1
pub record IsSound (m : Inside) : Type 0 where
  pub counter : m.pc < 4096
  pub prescaler : m.pre < 32
  pub one : m.psw / 8 % 2 ≡ 1
