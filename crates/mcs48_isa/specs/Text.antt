-- The text of an operation, from its line of the instruction set.
use Rattle.std.specs.Prelude.{ℕ, ◌+◌, ◌*◌, ◌/◌, ◌%◌, List, [], ◌∷◌, ◌++◌, codes}
use Rattle.hex_text.specs.Digits.{hex_byte, hex_address}
use Rattle.mcs48_isa.specs.declared.operation.Op.{Op}
use Rattle.mcs48_isa.specs.Instructions.{Operand, Is, Register, Pointer, Expander, Immediate, Address, Target, Entry, digit, entry_of}

-- a value: 0, two hexadecimal digits, H
abbrev pub value : ℕ → List ℕ
value n = codes "0" ++ hex_byte n ++ codes "H"

-- an address: 0, three hexadecimal digits, H
abbrev pub address : ℕ → List ℕ
address a = codes "0" ++ hex_address a ++ codes "H"

-- the target of a jump at this place that names its low byte n: it is in the page of the jump's second byte, whose
-- place is taken modulo 2,048
abbrev pub target : ℕ → ℕ → ℕ
target at n = (at + 1) % 2048 / 256 * 256 + n

-- an operand of an instruction at this place
abbrev pub operand_text : ℕ → Operand → List ℕ
operand_text at (Is word) = word
operand_text at (Register r) = codes "R" ++ digit r
operand_text at (Pointer i) = codes "@R" ++ digit i
operand_text at (Expander p) = codes "P" ++ digit p
operand_text at (Immediate n) = codes "#" ++ value n
operand_text at (Address a) = address a
operand_text at (Target n) = address (target at n)

-- further operands, a comma before each
abbrev pub further_text : ℕ → List Operand → List ℕ
further_text at [] = []
further_text at (operand ∷ operands) = codes "," ++ operand_text at operand ++ further_text at operands

-- what is after the word: nothing, or one space and the operands
abbrev pub operands_text : ℕ → List Operand → List ℕ
operands_text at [] = []
operands_text at (operand ∷ operands) = codes " " ++ operand_text at operand ++ further_text at operands

-- the text of a line
abbrev pub entry_text : ℕ → Entry → List ℕ
entry_text at entry = entry.word ++ operands_text at entry.operands

-- the text of an operation at a place
abbrev pub text_of : Op → ℕ → List ℕ
text_of op at = entry_text at (entry_of op)
