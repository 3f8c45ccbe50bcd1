-- Jumps to where the processor is, one after another.
use Rattle.std.specs.Prelude.{ℕ, ◌+◌, ◌*◌, ◌/◌, ◌%◌}
use Rattle.mcs48_core.specs.declared.processor.Count.{Count}
use Rattle.mcs48_core.specs.declared.processor.Count.TheVariants.{Off, Timer, Counter}
use Rattle.mcs48_core.specs.Cpu.{Cpu}

-- T and the prescaler as one number of cycles, after so many such jumps: two cycles each, if the timer runs on them
abbrev pub elapsed : Count → ℕ → Cpu → ℕ
elapsed Off n m = 32 * m.t + m.pre
elapsed Timer n m = 32 * m.t + m.pre + 2 * n
elapsed Counter n m = 32 * m.t + m.pre

-- the processor after so many of them
abbrev pub spun : ℕ → Cpu → Cpu
spun n m = record m { t = elapsed m.run n m / 32; pre = elapsed m.run n m % 32 }
