-- What holds of each step, whatever the program does: its row, and the sizes of what the processor keeps.
use Rattle.std.specs.Prelude.{◌≡◌, ℕ, ◌+◌, ◌%◌, false, List, All, Some}
use Rattle.mcs48_core.specs.declared.levels.Pins.{Pins}
use Rattle.mcs48_core.specs.Cpu.{Cpu}
use Rattle.mcs48_core.specs.Step.{Stepped, stepped, row_at}
use Rattle.fw_kernel.specs.declared.bytes.TheConstants.{KERNEL}
use Rattle.fw_kernel.specs.Places.{is_table, HasKernel}
use Rattle.mcs48_ranges.specs.Sizes.{IsByte, IsFine, IsFinePins}

-- outside the tables the rows are the kernel's
abbrev pub RowsLaw : Type 0
RowsLaw = (bytes : List ℕ) → HasKernel bytes
    → (pc : ℕ) → is_table (pc % 2048) ≡ false → is_table ((pc + 1) % 2048) ≡ false
    → row_at bytes pc ≡ row_at KERNEL pc

-- bytes stay bytes: A, data memory, the timer and the latches below 256; the counter keeps its 12 bits, the prescaler
-- its 5
abbrev pub BytesLaw : Type 0
BytesLaw = (bytes : List ℕ) → All IsByte bytes → (pins : Pins) → IsFinePins pins → (m : Cpu) → IsFine m
    → (next : Stepped) → stepped bytes pins m ≡ Some next → IsFine next.cpu
