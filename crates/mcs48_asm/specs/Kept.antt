-- What the program keeps of a line, with its texts as lists. No definition of what a source gives cites it.
use Rattle.std.specs.Prelude.{ℕ, List, [], ◌∷◌, Ok, Err, Some, None, map, unwrap_or, if◌then◌else◌}
use Rattle.std.specs.Borrow.{Bor}
use Rattle.std.specs.List.{before_first, slice_split}
use Rattle.std.specs.Str.{bytes_eq}
use Rattle.std.specs.declared.option.Option.{Option}
use Rattle.std.specs.declared.result.Result.{Result}
use Rattle.std.specs.Option.{option_map, option_or}
use Rattle.mcs48_asm.specs.declared.argument.Value.{Value as KeptValue}
use Rattle.mcs48_asm.specs.declared.argument.Argument.{Argument as KeptArgument}
use Rattle.mcs48_asm.specs.declared.argument.Reading.{Reading as KeptReading}
use Rattle.mcs48_asm.specs.declared.statement.Statement.{Statement as KeptStatement}
use Rattle.mcs48_asm.specs.declared.argument.Value.TheVariants as written
use Rattle.mcs48_asm.specs.declared.line.Line.{Line as KeptLine}
use Rattle.mcs48_asm.specs.declared.flaw.Flaw.{Flaw}
use Rattle.mcs48_asm.specs.declared.statement.Statement.TheVariants as statements
use Rattle.mcs48_asm.specs.Tokens.{tokens_of}
use Rattle.mcs48_asm.specs.Values.{Value, Number, Named, Low, value_of}
use Rattle.mcs48_asm.specs.declared.rows.Operand.{Operand as KeptOperand}
use Rattle.mcs48_asm.specs.declared.rows.Operand.TheVariants as operands
use Rattle.mcs48_asm.specs.declared.rows.Shape.{Shape as KeptShape}
use Rattle.mcs48_asm.specs.declared.rows.Shape.TheVariants as shapes
use Rattle.mcs48_asm.specs.declared.rows.Row.{Row as KeptRow}
use Rattle.mcs48_isa.specs.Instructions.{Operand, Is, Register, Pointer, Expander, Immediate, Address, Target}
use Rattle.mcs48_asm.specs.Capped.{value_capped, statement_capped, line_capped}
use Rattle.mcs48_asm.specs.Characters.{is_blank, is_comma}
use Rattle.mcs48_asm.specs.Rows.{Argument, Reading, Form}
use Rattle.mcs48_asm.specs.Statements.{Statement, Nothing, Instruction, Origin, Data, Equate, instruction_in, Line}
use Rattle.mcs48_asm.specs.Statements.{line_of}

abbrev pub value_seen : KeptValue → Value
value_seen (written.Number n) = Number n
value_seen (written.Named name) = Named name.now
value_seen (written.Low name) = Low name.now

abbrev pub argument_seen : KeptArgument → Argument
argument_seen argument = record { role = argument.role; value = value_seen argument.value }

abbrev pub reading_seen : KeptReading → Reading
reading_seen reading = record { offset = reading.offset; argument = option_map argument_seen reading.argument }

-- the value that a part of DB's text writes, as the program keeps it; each is one
abbrev pub kept_part : List ℕ → Value
kept_part text = value_capped (unwrap_or (value_of (tokens_of text)) (Number 0))

abbrev pub statement_seen : KeptStatement → Statement
statement_seen statements.Nothing = Nothing
statement_seen (statements.Instruction opcode argument) = Instruction opcode (option_map argument_seen argument)
statement_seen (statements.Origin place) = Origin place
statement_seen (statements.Data values) = Data (map kept_part (slice_split is_comma values.now))
statement_seen (statements.Equate name number) = Equate name.now number

abbrev pub found_seen : Result KeptStatement Flaw → Result Statement Flaw
found_seen (Ok statement) = Ok (statement_seen statement)
found_seen (Err flaw) = Err flaw

abbrev pub line_seen : KeptLine → Line
line_seen line = record {
  flaw = line.flaw;
  label = option_map (λ label. label.now) line.label;
  statement = statement_seen line.statement;
}

-- the value of a name among those that the program keeps
abbrev pub kept_value : List (Bor (List ℕ) × ℕ) → List ℕ → Option ℕ
kept_value [] name = None
kept_value (entry ∷ entries) name = if bytes_eq name entry.0.now then Some entry.1 else kept_value entries name

-- a word of the program's table without the blanks that fill it up
abbrev pub spelled : List ℕ → List ℕ
spelled word = before_first is_blank word

-- what an operand of the program's table stands for
abbrev pub operand_seen : KeptOperand → Operand
operand_seen (operands.Is word) = Is (spelled word)
operand_seen operands.Register = Register 0
operand_seen operands.Pointer = Pointer 0
operand_seen operands.Expander = Expander 4
operand_seen operands.Immediate = Immediate 0
operand_seen operands.Address = Address 0
operand_seen operands.Target = Target 0

abbrev pub operands_seen : KeptShape → List Operand
operands_seen shapes.Without = []
operands_seen (shapes.One operand) = operand_seen operand ∷ []
operands_seen (shapes.Two first second) = operand_seen first ∷ operand_seen second ∷ []

-- the form of a row of the program's table
abbrev pub form_seen : KeptRow → Form
form_seen row = record { word = spelled row.0; operands = operands_seen row.1; first = row.2 }

-- what the program keeps of the instruction of the first row that fits
abbrev pub kept_fit : List KeptRow → List (List ℕ) → Option Statement
kept_fit [] tokens = None
kept_fit (row ∷ rows) tokens =
    option_or (option_map statement_capped (instruction_in (form_seen row) tokens)) (kept_fit rows tokens)

-- what the program keeps of a line
abbrev pub kept_line : List ℕ → Line
kept_line line = line_capped (line_of line)
