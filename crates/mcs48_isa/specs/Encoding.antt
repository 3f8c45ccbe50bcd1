-- The bytes of an operation, from its line of the instruction set.
use Rattle.std.specs.Prelude.{ℕ, ◌+◌, ◌*◌, ◌/◌, ◌%◌, nat_eq, List, [], ◌∷◌, Some, None, if◌then◌else◌, slice_index}
use Rattle.std.specs.Option.{option_or}
use Rattle.std.specs.declared.option.Option.{Option}
use Rattle.mcs48_isa.specs.declared.operation.Code.{Code}
use Rattle.mcs48_isa.specs.declared.operation.Decoded.{Decoded}
use Rattle.mcs48_isa.specs.declared.operation.Op.{Op}
use Rattle.mcs48_isa.specs.Instructions.{Operand, Is, Register, Pointer, Expander, Immediate, Address, Target, Entry, entry_of}
use Rattle.mcs48_isa.specs.Table.{row_of}

-- the number of a register or of a port is added to the first byte, and bits 8 to 10 of an address are its top three
abbrev pub with_number : ℕ → Operand → ℕ
with_number first (Is word) = first
with_number first (Register r) = first + r
with_number first (Pointer i) = first + i
with_number first (Expander p) = first + p
with_number first (Immediate n) = first
with_number first (Address a) = first + 32 * (a / 256)
with_number first (Target n) = first

-- the first byte with the numbers of the operands
abbrev pub first_byte : ℕ → List Operand → ℕ
first_byte first [] = first
first_byte first (operand ∷ operands) = first_byte (with_number first operand) operands

-- the byte that an operand takes
abbrev pub own_byte : Operand → Option ℕ
own_byte (Is word) = None
own_byte (Register r) = None
own_byte (Pointer i) = None
own_byte (Expander p) = None
own_byte (Immediate n) = Some n
own_byte (Address a) = Some (a % 256)
own_byte (Target n) = Some n

-- the second byte, if an operand takes one
abbrev pub second_byte : List Operand → Option ℕ
second_byte [] = None
second_byte (operand ∷ operands) = option_or (own_byte operand) (second_byte operands)

-- one byte
abbrev pub one_byte : ℕ → Code
one_byte b = record { bytes = b ∷ 0 ∷ []; len = 1 }

-- two bytes
abbrev pub two_bytes : ℕ → ℕ → Code
two_bytes b n = record { bytes = b ∷ n ∷ []; len = 2 }

abbrev pub bytes_with : ℕ → Option ℕ → Code
bytes_with b None = one_byte b
bytes_with b (Some n) = two_bytes b n

-- the bytes of a line
abbrev pub entry_code : Entry → Code
entry_code entry = bytes_with (first_byte entry.first entry.operands) (second_byte entry.operands)

-- the bytes of an operation, 00 in the place of the second if it has one byte
abbrev pub code_of : Op → Code
code_of op = entry_code (entry_of op)

-- of two bytes those that an operation of this length takes, 00 in place of the other
abbrev pub taken : ℕ → ℕ → ℕ → Code
taken len b n = record { bytes = b ∷ (if nat_eq len 2 then n else 0) ∷ []; len = len }

-- the row that the bytes of a code begin
abbrev pub row_of_code : Code → Option Decoded
row_of_code code = row_of (slice_index code.bytes 0) (slice_index code.bytes 1)
