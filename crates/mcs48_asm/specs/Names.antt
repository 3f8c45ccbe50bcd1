-- What names mean, and the bytes of a line.
use Rattle.std.specs.Prelude.{ℕ, ◌+◌, ◌*◌, ◌/◌, ◌%◌, not, List, [], ◌∷◌, ◌++◌, map, filter, find, Some, None, unwrap_or}
use Rattle.std.specs.List.{flat_map}
use Rattle.std.specs.Option.{option_map, option_to_list}
use Rattle.std.specs.Str.{bytes_eq}
use Rattle.std.specs.declared.option.Option.{Option}
use Rattle.mcs48_asm.specs.declared.argument.Role.{Role}
use Rattle.mcs48_asm.specs.declared.argument.Role.TheVariants.{Byte, Address, Target}
use Rattle.mcs48_asm.specs.Values.{Value, Number, Named, Low}
use Rattle.mcs48_asm.specs.Rows.{is_reserved}
use Rattle.mcs48_asm.specs.Statements.{Statement, Nothing, Instruction, Origin, Data, Equate}
use Rattle.mcs48_asm.specs.Places.{Placed}

-- a name and its value
pub record Definition : Type 0 where
  pub name : List ℕ
  pub value : ℕ

-- the name that an EQU line gives a value
abbrev pub equated : Statement → List Definition
equated (Equate name number) = record { name = name; value = number } ∷ []
equated statement = []

-- the label of a line, whose value is the place
abbrev pub labelled : Placed → List Definition
labelled at = map (λ name. record { name = name; value = at.start }) (option_to_list at.line.label)

-- what a line would define: its label, and then the name before EQU
abbrev pub named : Placed → List Definition
named at = labelled at ++ equated at.line.statement

-- what a line defines: a reserved name is never defined
abbrev pub defined : Placed → List Definition
defined at = filter (λ definition. not (is_reserved definition.name)) (named at)

-- what lines define, in their order
abbrev pub definitions : List Placed → List Definition
definitions lines = flat_map defined lines

-- the value of a name: its first definition holds
abbrev pub value_named : List Definition → List ℕ → Option ℕ
value_named names name =
    option_map (λ definition. definition.value) (find (λ definition. bytes_eq name definition.name) names)

-- what names mean: the value of each name that has one
abbrev pub Meanings : Type 0
Meanings = List ℕ → Option ℕ

-- the number that a value means, if its name has one
abbrev pub meaning : Meanings → Value → Option ℕ
meaning names (Number n) = Some n
meaning names (Named name) = names name
meaning names (Low name) = option_map (λ value. value % 256) (names name)

-- the bytes of an instruction with this first byte and this value: the low byte is in the second, and the page of
-- JMP's and CALL's address in the top bits of the first
abbrev pub with_value : ℕ → Role → ℕ → List ℕ
with_value opcode Byte n = opcode ∷ n % 256 ∷ []
with_value opcode Address n = (opcode + 32 * (n / 256)) % 256 ∷ n % 256 ∷ []
with_value opcode Target n = opcode ∷ n % 256 ∷ []

-- the number that stands for a value in a line's bytes
abbrev pub taken : Meanings → Value → ℕ
taken names value = unwrap_or (meaning names value) 0

-- the bytes of a statement
abbrev pub bytes_of : Meanings → Statement → List ℕ
bytes_of names Nothing = []
bytes_of names (Instruction opcode None) = opcode ∷ []
bytes_of names (Instruction opcode (Some argument)) = with_value opcode argument.role (taken names argument.value)
bytes_of names (Origin place) = []
bytes_of names (Data values) = map (λ value. taken names value % 256) values
bytes_of names (Equate name number) = []
