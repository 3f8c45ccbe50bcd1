-- A run of the processor from reset, with all pins high.
use Rattle.std.specs.Prelude.{ℕ, ◌+◌, ◌%◌, zero, suc, true, List, slice_index, None, Some}
use Rattle.std.specs.declared.option.Option.{Option}
use Rattle.mcs48_core.specs.Cpu.{Cpu}
use Rattle.mcs48_core.specs.Reset.{reset_cpu}
use Rattle.mcs48_core.specs.Step.{Stepped, stepped}
use Rattle.mcs48_core.specs.declared.levels.Pins.{Pins}
use Rattle.mcs48_core.specs.declared.stepping.Stuck.{Stuck}

-- all pins are high
abbrev pub high : Pins
high = record { p1 = 255; p2 = 255; bus = 255; t0 = true; t1 = true; int_pin = true }

-- a run is at a state, with the machine cycles done, or it has stopped at a byte without an instruction
pub data Progress : Type 0 where
  WentOn : Cpu → ℕ → Progress
  Stopped : Stuck → Progress

-- after one step more from a state
abbrev pub step_on : List ℕ → Cpu → ℕ → Option Stepped → Progress
step_on bytes cpu cycles (Some next) = WentOn next.cpu (cycles + next.cycles)
step_on bytes cpu cycles None = Stopped (record { pc = cpu.pc; byte = slice_index bytes (cpu.pc % 2048) })

-- after one step more
abbrev pub onward : List ℕ → Progress → Progress
onward bytes (WentOn cpu cycles) = step_on bytes cpu cycles (stepped bytes high cpu)
onward bytes (Stopped stuck) = Stopped stuck

-- after so many steps from reset
abbrev pub after_steps : List ℕ → ℕ → Progress
after_steps bytes zero = WentOn reset_cpu 0
after_steps bytes (suc n) = onward bytes (after_steps bytes n)
