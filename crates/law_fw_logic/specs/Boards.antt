-- The state at power-on, and boards that may show anything.
use Rattle.std.specs.Prelude.{ℕ}
use Rattle.mcs48_core.specs.declared.levels.Pins.{Pins}
use Rattle.mcs48_core.specs.Cpu.{Cpu}
use Rattle.joint_run.specs.Joint.{powered}
use Rattle.joint_run.specs.Run.{Board, World}

-- the first state of a part that held this when it was switched on, on any board
abbrev pub power_on : (d : Board) → Cpu → d.State → World d.State
power_on d m board = record { cpu = powered m; board = board; cycle = 0 }

-- a board whose state is a number; the pins, by both latches, the cycle and the state, may show anything
abbrev pub numbered : (ℕ → ℕ → ℕ → ℕ → Pins) → (ℕ → ℕ → ℕ → ℕ) → Board
numbered pins cycle = record { State = ℕ; pins = pins; cycle = cycle }
