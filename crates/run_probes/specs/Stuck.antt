-- Whether the next step would be stuck.
use Rattle.std.specs.Prelude.{ℕ, Bool, not, ◌&&◌, List, is_none}
use Rattle.mcs48_core.specs.Cpu.{Cpu}
use Rattle.mcs48_core.specs.Step.{row_at, takes_timer}

-- with the pin INT high: no interrupt is entered, and the byte at the counter begins no instruction
abbrev pub sticks : List ℕ → Cpu → Bool
sticks bytes m = not (takes_timer m) && is_none (row_at bytes m.pc)
