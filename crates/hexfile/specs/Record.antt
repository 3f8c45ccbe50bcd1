-- What a line says.
use Rattle.std.specs.Prelude.{ℕ, ◌+◌, ◌*◌, ◌%◌, List, [], ◌∷◌, length, take, sum, None, Some, ◌==◌, if◌then◌else◌}
use Rattle.std.specs.Option.{option_and_then}
use Rattle.std.specs.declared.option.Option.{Option}
use Rattle.hex_text.specs.Digits.{digit_value}
use Rattle.hexfile.specs.declared.record.Record as code

infixl 10 ◌>>=◌
abbrev pub ◌>>=◌ : {A B : Type 0} → Option A → (A → Option B) → Option B
found >>= next = option_and_then next found

-- the bytes that digits write, the high digit of a byte first; none if a character is no digit, or a digit is left
-- over
abbrev pub bytes_of : List ℕ → Option (List ℕ)
bytes_of [] = Some []
bytes_of (digit ∷ []) = None
bytes_of (first ∷ second ∷ digits) = do
  high ← digit_value first
  low ← digit_value second
  bytes ← bytes_of digits
  Some ((16 * high + low) ∷ bytes)

-- the bytes of a line: a colon, and then digits
abbrev pub line_bytes : List ℕ → Option (List ℕ)
line_bytes [] = None
line_bytes (mark ∷ digits) = if mark == 58 then bytes_of digits else None

-- what a line says: the place of its first byte of data, its type, its data, and the sum of all its bytes modulo 256
pub record Record : Type 0 where
  pub address : ℕ
  pub kind : ℕ
  pub bytes : List ℕ
  pub total : ℕ

-- a line's bytes are the count, the address with its high byte first, the type, as many bytes of data as the count
-- says, and a sum byte
abbrev pub record_of : List ℕ → Option Record
record_of (count ∷ high ∷ low ∷ kind ∷ rest) =
    if length rest == count + 1
    then Some (record {
      address = high * 256 + low;
      kind = kind;
      bytes = take count rest;
      total = sum (count ∷ high ∷ low ∷ kind ∷ rest) % 256;
    })
    else None
record_of bytes = None

-- what a line says; none if it hasn't the form
abbrev pub record_in : List ℕ → Option Record
record_in line = option_and_then record_of (line_bytes line)

-- the record that the program keeps of a line, with its data as a list
abbrev pub said_by : code.Record → Record
said_by line = record { address = line.address; kind = line.kind; bytes = line.bytes.now; total = line.total }
