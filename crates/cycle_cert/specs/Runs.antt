-- Runs of the processor, and what a bound says of them.
use Rattle.std.specs.Prelude.{◌≡◌, ℕ, zero, suc, ◌+◌, ◌%◌, ◌<◌, ◌≤◌, false, List, Option, Some, None}
use Rattle.mcs48_core.specs.declared.levels.Pins.{Pins}
use Rattle.mcs48_core.specs.Cpu.{Cpu}
use Rattle.mcs48_core.specs.Step.{Stepped, stepped}
use Rattle.mcs48_ranges.specs.Sizes.{IsFine}

-- levels of pins that are bytes
abbrev pub ArePins : Pins → Type 0
ArePins pins = (pins.p1 < 256) × (pins.p2 < 256) × (pins.bus < 256)

-- bank 0 is selected, and both interrupts are off
abbrev pub IsPlain : Cpu → Type 0
IsPlain m = (m.rb ≡ false) × (m.ext_on ≡ false) × (m.tim_on ≡ false)

-- a state, so many cycles later
abbrev pub later : ℕ → Option Stepped → Option Stepped
later cycles None = None
later cycles (Some end) = Some (record { cpu = end.cpu; cycles = cycles + end.cycles })

-- so many steps, each with pins of its own, from a state, and the cycles that they take; none if a step is stuck
abbrev pub run : ℕ → List ℕ → (ℕ → Pins) → Cpu → Option Stepped
run zero bytes pins m = Some (record { cpu = m; cycles = 0 })
run (suc n) bytes pins m =
    elim (stepped bytes (pins 0) m) [
      | None ↦ None
      | Some next ↦ later next.cycles (run n bytes (λ i. pins (suc i)) next.cpu)
    ]

-- after at least one step, none of them stuck, and at most so many cycles the counter, modulo 2,048, is at the target;
-- both interrupts are off still, bank 0 is selected still, and the ranges are kept, so that another certificate may
-- begin where this one ends
pub record ComesTo (bytes : List ℕ) (pins : ℕ → Pins) (m : Cpu) (target limit : ℕ) : Type 0 where
  -- the steps but for the first
  pub more : ℕ
  pub end : Stepped
  pub comes : run (suc more) bytes pins m ≡ Some end
  pub there : end.cpu.pc % 2048 ≡ target
  pub within : end.cycles ≤ limit
  pub plain : IsPlain end.cpu
  pub fine : IsFine end.cpu
