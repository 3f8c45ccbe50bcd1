-- Interrupts, banks, the timer and the clock output.
use Rattle.std.specs.Prelude.{true, false}
use Rattle.mcs48_isa.specs.declared.operation.ControlOp.{ControlOp}
use Rattle.mcs48_isa.specs.declared.operation.ControlOp.TheVariants.{Nop, EnI, DisI, EnTcnti, DisTcnti, SelRb0}
use Rattle.mcs48_isa.specs.declared.operation.ControlOp.TheVariants.{SelRb1, SelMb0, SelMb1, StrtT, StrtCnt}
use Rattle.mcs48_isa.specs.declared.operation.ControlOp.TheVariants.{StopTcnt, Ent0Clk}
use Rattle.mcs48_core.specs.declared.processor.Count.TheVariants.{Off, Timer, Counter}
use Rattle.mcs48_core.specs.Cpu.{Cpu}

-- one equation a row
abbrev pub control : ControlOp → Cpu → Cpu
control Nop m = m
control EnI m = record m { ext_on = true }
control DisI m = record m { ext_on = false }
control EnTcnti m = record m { tim_on = true }
-- DIS TCNTI also clears a latched request
control DisTcnti m = record m { tim_on = false; rq = false }
control SelRb0 m = record m { rb = false }
control SelRb1 m = record m { rb = true }
control SelMb0 m = record m { mb = false }
control SelMb1 m = record m { mb = true }
-- STRT T clears the prescaler and not T
control StrtT m = record m { run = Timer; pre = 0 }
control StrtCnt m = record m { run = Counter }
control StopTcnt m = record m { run = Off }
control Ent0Clk m = record m { clk = true }
