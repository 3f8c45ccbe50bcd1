-- What each row does to the registers of bank 0, by the processor's own equations.
use Rattle.std.specs.Prelude.{◌≡◌, ℕ, ◌<◌, true, false, List, length, Some}
use Rattle.mcs48_isa.specs.Operands.{IsOp}
use Rattle.mcs48_isa.specs.declared.operation.Op.{Op}
use Rattle.mcs48_core.specs.declared.levels.Pins.{Pins}
use Rattle.mcs48_core.specs.Cpu.{Cpu}
use Rattle.mcs48_core.specs.Registers.{register}
use Rattle.mcs48_core.specs.Step.{effect}
use Rattle.cycle_cert.specs.Rows.{is_certifiable, writes, value_given}

-- a row that can't write a register leaves it, and one that gives it a value leaves that value in it
abbrev pub RegisterLaw : Type 0
RegisterLaw = (op : Op) (bytes : List ℕ) (pins : Pins) (m : Cpu) (r : ℕ)
    → IsOp op → is_certifiable op ≡ true → m.rb ≡ false → length m.ram ≡ 128 → r < 8
    → (writes op r ≡ false → register r (effect op bytes pins m) ≡ register r m)
    × ((v : ℕ) → value_given op r (register r m) ≡ Some v → register r (effect op bytes pins m) ≡ v)
