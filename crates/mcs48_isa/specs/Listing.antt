-- The listing of a program memory.
use Rattle.std.specs.Prelude.{ℕ, zero, suc, ◌+◌, List, [], ◌∷◌, ◌++◌, nat_eq, nat_lt, nat_le, codes, slice_index, Some, None, if◌then◌else◌}
use Rattle.std.specs.declared.option.Option.{Option}
use Rattle.mcs48_isa.specs.declared.operation.Decoded.{Decoded}
use Rattle.mcs48_isa.specs.Table.{row_of}
use Rattle.mcs48_isa.specs.Text.{text_of, value}

-- the end of a list of bytes with one more byte in front, from the end without it
abbrev pub end_after : ℕ → ℕ → ℕ
end_after byte zero = if nat_eq byte 0 then 0 else 1
end_after byte (suc end) = suc (suc end)

-- the place after the last byte other than 00; 0 if each byte is 00
abbrev pub end_of : List ℕ → ℕ
end_of [] = 0
end_of (byte ∷ bytes) = end_after byte (end_of bytes)

-- an instruction at a place, if all its bytes are at places below 2,048
abbrev pub that_fits : ℕ → Option Decoded → Option Decoded
that_fits place None = None
that_fits place (Some d) = if nat_le (place + d.len) 2048 then Some d else None

-- the instruction that a place's byte begins
abbrev pub instruction_at : List ℕ → ℕ → Option Decoded
instruction_at bytes place = that_fits place (row_of (slice_index bytes place) (slice_index bytes (place + 1)))

-- what is written for a byte at a place: its instruction's text, else DB and the byte
abbrev pub statement_of : Option Decoded → ℕ → ℕ → List ℕ
statement_of (Some d) byte place = text_of d.op place
statement_of None byte place = codes "DB " ++ value byte

-- the places that are written by it
abbrev pub size_of : Option Decoded → ℕ
size_of (Some d) = d.len
size_of None = 1

-- the line of a place, with its LF
abbrev pub line_at : List ℕ → ℕ → List ℕ
line_at bytes place = statement_of (instruction_at bytes place) (slice_index bytes place) place ++ 10 ∷ []

-- the lines from a place up to the end; there are at most as many as the number that counts down
abbrev pub lines_from : List ℕ → ℕ → ℕ → ℕ → List ℕ
lines_from bytes end zero place = []
lines_from bytes end (suc most) place =
    if nat_lt place end
    then line_at bytes place ++ lines_from bytes end most (place + size_of (instruction_at bytes place))
    else []

-- the listing: one line each, from place 0 to the last byte other than 00
abbrev pub listing_of : List ℕ → List ℕ
listing_of bytes = lines_from bytes (end_of bytes) (end_of bytes) 0
