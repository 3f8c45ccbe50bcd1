-- The processor after reset.
use Rattle.std.specs.Prelude.{true, false, replicate}
use Rattle.mcs48_core.specs.declared.processor.Count.TheVariants.{Off}
use Rattle.mcs48_core.specs.Cpu.{Cpu}

-- all is 0, off or clear, but for the latches, which are FF, and the last level of T1, which is high
abbrev pub reset_cpu : Cpu
reset_cpu = record {
  pc = 0;
  a = 0;
  c = false;
  ac = false;
  f0 = false;
  rb = false;
  sp = 0;
  f1 = false;
  mb = false;
  ram = replicate 128 0;
  t = 0;
  pre = 0;
  tf = false;
  run = Off;
  ext_on = false;
  tim_on = false;
  rq = false;
  svc = false;
  p1 = 255;
  p2 = 255;
  bus = 255;
  clk = false;
  last_t1 = true;
}

-- reset in a processor, whatever it held: it leaves A, both carries, T, the prescaler, data memory, the timer's request
-- and the latch of the bus, and T1's last level is any. In all of these a part that was just switched on may hold
-- anything; all else is as above
abbrev pub reset_in : Cpu → Cpu
reset_in m = record reset_cpu {
  a = m.a;
  c = m.c;
  ac = m.ac;
  ram = m.ram;
  t = m.t;
  pre = m.pre;
  rq = m.rq;
  bus = m.bus;
  last_t1 = m.last_t1;
}
