-- Which operands an instruction may have, and what they say.
use Rattle.std.specs.Prelude.{ℕ, ◌+◌, ◌-◌, Bool, true, List, [], ◌∷◌, ◌==◌, ◌&&◌, ◌||◌, nat_le, Some, None}
use Rattle.std.specs.Prelude.{if◌then◌else◌, codes}
use Rattle.std.specs.List.{list_any, list_all, filter_map, range_with_len}
use Rattle.std.specs.Option.{option_map, option_and_then, option_or}
use Rattle.std.specs.Str.{bytes_eq}
use Rattle.std.specs.declared.option.Option.{Option}
use Rattle.mcs48_isa.specs.Instructions.{Operand, Is, Register, Pointer, Expander, Immediate, Address, Target, Entry}
use Rattle.mcs48_isa.specs.Instructions.{entry_of}
use Rattle.mcs48_isa.specs.Table.{row_of}
use Rattle.mcs48_asm.specs.declared.argument.Role.{Role}
use Rattle.mcs48_asm.specs.declared.argument.Role.TheVariants as role
use Rattle.mcs48_asm.specs.Characters.{digit, letter_p, letter_r, pointer_mark, value_mark}
use Rattle.mcs48_asm.specs.Tokens.{parts_of, alone}
use Rattle.mcs48_asm.specs.Values.{Value, value_of}

-- an instruction as a source writes it: its word, what its operands are, and its first byte before numbers are added
pub record Form : Type 0 where
  pub word : List ℕ
  pub operands : List Operand
  pub first : ℕ

abbrev pub form_of : Entry → Form
form_of entry = record { word = entry.word; operands = entry.operands; first = entry.first }

-- the first of the registers, of the ports and of the pages; every other operand
abbrev pub is_lowest : Operand → Bool
is_lowest (Is word) = true
is_lowest (Register r) = r == 0
is_lowest (Pointer i) = i == 0
is_lowest (Expander p) = p == 4
is_lowest (Immediate n) = true
is_lowest (Address a) = a == 0
is_lowest (Target n) = true

abbrev pub lowest_form : Entry → Option Form
lowest_form entry = if list_all is_lowest entry.operands then Some (form_of entry) else None

-- the instruction that a byte begins, of those that differ in a register, a port or a page alone the first
abbrev pub form_at : ℕ → Option Form
form_at byte = option_and_then (λ row. lowest_form (entry_of row.op)) (row_of byte 0)

-- the instructions of the instruction set, by their first bytes
unfoldable pub instructions : List Form
instructions = filter_map form_at (range_with_len 0 256)

-- the first word of an instruction
unfoldable pub is_instruction : List ℕ → Bool
is_instruction word = list_any (λ form. bytes_eq form.word word) instructions

-- the words that no line defines, beside the first words of the instructions: those of operands, and of statements
unfoldable pub reserved : List (List ℕ)
reserved =
    codes "A" ∷ codes "BUS" ∷ codes "C" ∷ codes "F0" ∷ codes "F1" ∷ codes "I" ∷ codes "LOW" ∷
    codes "P1" ∷ codes "P2" ∷ codes "P4" ∷ codes "P5" ∷ codes "P6" ∷ codes "P7" ∷ codes "PSW" ∷
    codes "R0" ∷ codes "R1" ∷ codes "R2" ∷ codes "R3" ∷ codes "R4" ∷ codes "R5" ∷ codes "R6" ∷ codes "R7" ∷
    codes "T" ∷ codes "CNT" ∷ codes "CLK" ∷ codes "TCNTI" ∷ codes "RB0" ∷ codes "RB1" ∷ codes "MB0" ∷ codes "MB1" ∷
    codes "ORG" ∷ codes "DB" ∷ codes "EQU" ∷ []

-- a word that no line defines
unfoldable pub is_reserved : List ℕ → Bool
is_reserved word = list_any (λ held. bytes_eq held word) reserved || is_instruction word

-- a value, and how the bytes of its line take it
pub record Argument : Type 0 where
  pub role : Role
  pub value : Value

-- what operands say: what is added to the first byte, and the value that the bytes take
pub record Reading : Type 0 where
  pub offset : ℕ
  pub argument : Option Argument

abbrev pub fixed : ℕ → Reading
fixed offset = record { offset = offset; argument = None }

abbrev pub given : Role → Value → Reading
given role value = record { offset = 0; argument = Some (record { role = role; value = value }) }

-- the number of a digit from one to another
abbrev pub numbered : ℕ → ℕ → ℕ → Option ℕ
numbered first last c = if nat_le first c && nat_le c last then Some (c - digit 0) else None

-- R0 to R7
abbrev pub register : List ℕ → Option ℕ
register (letter ∷ c ∷ []) = if letter == letter_r then numbered (digit 0) (digit 7) c else None
register _ = None

-- @R0 or @R1
abbrev pub pointer : List ℕ → Option ℕ
pointer (mark ∷ letter ∷ c ∷ []) =
    if mark == pointer_mark && letter == letter_r then numbered (digit 0) (digit 1) c else None
pointer _ = None

-- P4 to P7
abbrev pub expander : List ℕ → Option ℕ
expander (letter ∷ c ∷ []) = if letter == letter_p then numbered (digit 4) (digit 7) c else None
expander _ = None

-- # and a value
abbrev pub immediate : List (List ℕ) → Option Value
immediate ((mark ∷ word) ∷ tokens) = if mark == value_mark then value_of (word ∷ tokens) else None
immediate _ = None

-- a word of the table
abbrev pub word_read : List ℕ → List ℕ → Option Reading
word_read word token = if bytes_eq word token then Some (fixed 0) else None

-- what tokens say as an operand like this, if they are one: it as the table writes it, with any number, and a value
-- if the table has one
abbrev pub read : Operand → List (List ℕ) → Option Reading
read (Is word) tokens = alone (word_read word) tokens
read (Register r) tokens = option_map fixed (alone register tokens)
read (Pointer i) tokens = option_map fixed (alone pointer tokens)
read (Expander p) tokens = option_map fixed (alone expander tokens)
read (Immediate n) tokens = option_map (given role.Byte) (immediate tokens)
read (Address a) tokens = option_map (given role.Address) (value_of tokens)
read (Target n) tokens = option_map (given role.Target) (value_of tokens)

-- what two operands say together
abbrev pub joined : Reading → Reading → Reading
joined first second =
    record { offset = first.offset + second.offset; argument = option_or first.argument second.argument }

-- and if both are there
abbrev pub both : Option Reading → Option Reading → Option Reading
both first second = option_and_then (λ said. option_map (joined said) second) first

-- what tokens say as the operands of an instruction, a comma between two, where they are
abbrev pub read_parts : List Operand → List (List (List ℕ)) → Option Reading
read_parts (operand ∷ []) (tokens ∷ []) = read operand tokens
read_parts (first ∷ second ∷ []) (tokens ∷ other ∷ []) = both (read first tokens) (read second other)
read_parts _ _ = None

abbrev pub read_all : List Operand → List (List ℕ) → Option Reading
read_all [] [] = Some (fixed 0)
read_all operands tokens = read_parts operands (parts_of tokens)
