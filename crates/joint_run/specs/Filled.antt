-- A part that holds one byte all over when it is switched on.
use Rattle.std.specs.Prelude.{ℕ, replicate}
use Rattle.mcs48_core.specs.Cpu.{Cpu}
use Rattle.mcs48_core.specs.Reset.{reset_cpu}

-- this byte in each place of data memory, in A and in T; in all else that reset leaves, what a cleared part holds
abbrev pub filled : ℕ → Cpu
filled byte = record reset_cpu { a = byte; ram = replicate 128 byte; t = byte }
