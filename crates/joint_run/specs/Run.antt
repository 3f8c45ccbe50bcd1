-- A processor on a board, step by step: the board has a state, which the cycles of a step change.
use Rattle.std.specs.Prelude.{ℕ, zero, suc, ◌+◌, List, Some, None}
use Rattle.std.specs.declared.option.Option.{Option}
use Rattle.mcs48_core.specs.declared.levels.Pins.{Pins}
use Rattle.mcs48_core.specs.Cpu.{Cpu}
use Rattle.mcs48_core.specs.Step.{Stepped, stepped}

-- what is beside the processor: the levels at its pins, by the latches of ports 1 and 2, the cycle and the board's
-- state; and what a cycle makes of this state, by the latch of port 2 and the cycle
pub record Board : Type 1 where
  pub State : Type 0
  pub pins : ℕ → ℕ → ℕ → State → Pins
  pub cycle : ℕ → ℕ → State → State

-- the board after so many cycles, the first of them with this number
abbrev pub after_cycles : {S : Type 0} → ℕ → ℕ → (ℕ → S → S) → S → S
after_cycles zero cycle f s = s
after_cycles (suc n) cycle f s = after_cycles n (cycle + 1) f (f cycle s)

-- the processor, the board's state, and the number of cycles that are done, which is that of the cycle to come
pub record World (S : Type 0) : Type 0 where
  pub cpu : Cpu
  pub board : S
  pub cycle : ℕ

-- the levels that the processor reads in the step to come
abbrev pub seen : (d : Board) → World d.State → Pins
seen d w = d.pins w.cpu.p1 w.cpu.p2 w.cycle w.board

-- the processor's step and then its cycles, in which its port writes hold already
abbrev pub after_step : (d : Board) → World d.State → Option Stepped → Option (World d.State)
after_step d w None = None
after_step d w (Some n) = Some (record {
  cpu = n.cpu;
  board = after_cycles n.cycles w.cycle (d.cycle n.cpu.p2) w.board;
  cycle = w.cycle + n.cycles;
})

-- the joint step: one step of the processor over this program, and the cycles that it takes; None if it is stuck
abbrev pub joint_step : (d : Board) → List ℕ → World d.State → Option (World d.State)
joint_step d bytes w = after_step d w (stepped bytes (seen d w) w.cpu)

-- the joint step from a state, if there is one
abbrev pub step_on : (d : Board) → List ℕ → Option (World d.State) → Option (World d.State)
step_on d bytes None = None
step_on d bytes (Some w) = joint_step d bytes w

-- the joint run from a state: the state after so many joint steps, if there is one
abbrev pub run_at : (d : Board) → List ℕ → World d.State → ℕ → Option (World d.State)
run_at d bytes from zero = Some from
run_at d bytes from (suc k) = step_on d bytes (run_at d bytes from k)
