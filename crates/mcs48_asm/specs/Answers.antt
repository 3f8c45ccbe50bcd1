-- What the assembler answers.
use Rattle.std.specs.Prelude.{◌≡◌, ℕ, List, Ok, Err}
use Rattle.std.specs.declared.result.Result.{Result}
use Rattle.mcs48_isa.specs.declared.image.Image.{Image}
use Rattle.mcs48_asm.specs.declared.fault.AsmFault.{AsmFault}
use Rattle.mcs48_asm.specs.declared.fault.AsmFault.TheVariants as faults
use Rattle.mcs48_asm.specs.Assembly.{Fault}

-- a fault is that of the text, unless memory ran out
abbrev pub IsFault : AsmFault → Result (List ℕ) Fault → Type 0
IsFault (faults.Line line number) outcome = outcome ≡ Err (line, number)
IsFault faults.Memory outcome = Unit {0}

-- an image is that of the text
abbrev pub IsOutcome : Result Image AsmFault → Result (List ℕ) Fault → Type 0
IsOutcome (Ok image) outcome = outcome ≡ Ok image.bytes
IsOutcome (Err fault) outcome = IsFault fault outcome
