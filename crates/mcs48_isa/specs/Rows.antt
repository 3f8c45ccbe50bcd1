-- What a row of the opcode table says, by its bytes and its time.
use Rattle.std.specs.Prelude.{Some, None}
use Rattle.std.specs.declared.option.Option.{Option}
use Rattle.mcs48_isa.specs.declared.operation.Decoded.{Decoded}
use Rattle.mcs48_isa.specs.declared.operation.Row.{Row}
use Rattle.mcs48_isa.specs.declared.operation.Row.TheVariants.{Empty, Short, Slow, Double}

-- the operation with its length and its machine cycles
abbrev pub decoded_of : Row → Option Decoded
decoded_of Empty = None
decoded_of (Short op) = Some (record { op = op; len = 1; cycles = 1 })
decoded_of (Slow op) = Some (record { op = op; len = 1; cycles = 2 })
decoded_of (Double op) = Some (record { op = op; len = 2; cycles = 2 })
