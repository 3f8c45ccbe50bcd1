-- Numbers as the program keeps them: 65,536 for each past 65,535. No definition of what a source gives cites them.
use Rattle.std.specs.Prelude.{ℕ, ◌+◌, min, List, [], ◌∷◌, map, Ok, Err}
use Rattle.std.specs.Option.{option_map}
use Rattle.std.specs.declared.result.Result.{Result}
use Rattle.mcs48_asm.specs.declared.flaw.Flaw.{Flaw}
use Rattle.mcs48_asm.specs.Values.{Value, Number, Named, Low}
use Rattle.mcs48_asm.specs.Rows.{Argument, Reading}
use Rattle.mcs48_asm.specs.Statements.{Statement, Nothing, Instruction, Origin, Data, Equate, Line}
use Rattle.mcs48_asm.specs.Places.{Placed, start_of, count_of}

-- 65,536 stands for each number past 65,535
abbrev pub capped : ℕ → ℕ
capped n = min n 65536

-- a value with 65,536 for a number past 65,535
abbrev pub value_capped : Value → Value
value_capped (Number n) = Number (capped n)
value_capped (Named name) = Named name
value_capped (Low name) = Low name

abbrev pub argument_capped : Argument → Argument
argument_capped argument = record { role = argument.role; value = value_capped argument.value }

abbrev pub reading_capped : Reading → Reading
reading_capped reading = record { offset = reading.offset; argument = option_map argument_capped reading.argument }

abbrev pub statement_capped : Statement → Statement
statement_capped Nothing = Nothing
statement_capped (Instruction opcode argument) = Instruction opcode (option_map argument_capped argument)
statement_capped (Origin place) = Origin (capped place)
statement_capped (Data values) = Data (map value_capped values)
statement_capped (Equate name number) = Equate name (capped number)

abbrev pub found_capped : Result Statement Flaw → Result Statement Flaw
found_capped (Ok statement) = Ok (statement_capped statement)
found_capped (Err flaw) = Err flaw

-- a line with 65,536 for each number past 65,535
abbrev pub line_capped : Line → Line
line_capped line = record { flaw = line.flaw; label = line.label; statement = statement_capped line.statement }

-- the lines, each with its place, if 65,536 stands for each place past 65,535
abbrev pub kept_places : ℕ → List Line → List Placed
kept_places place [] = []
kept_places place (line ∷ lines) =
    let start = start_of place line.statement in
    record { start = start; line = line } ∷ kept_places (capped (start + count_of line.statement)) lines
