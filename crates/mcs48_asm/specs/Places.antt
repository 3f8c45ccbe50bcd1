-- Where the bytes of a line are.
use Rattle.std.specs.Prelude.{ℕ, ◌+◌, Bool, ◌&&◌, List, [], ◌∷◌, length, Some, None, nat_le, nat_lt}
use Rattle.std.specs.List.{list_any, range_with_len}
use Rattle.mcs48_asm.specs.Statements.{Statement, Nothing, Instruction, Origin, Data, Equate, Line}

-- how many bytes a statement counts
abbrev pub count_of : Statement → ℕ
count_of Nothing = 0
count_of (Instruction opcode None) = 1
count_of (Instruction opcode (Some argument)) = 2
count_of (Origin place) = 0
count_of (Data values) = length values
count_of (Equate name number) = 0

-- the place of the next byte at a line, which is also its label's value: the place after the lines before it, or
-- ORG's number
abbrev pub start_of : ℕ → Statement → ℕ
start_of place (Origin number) = number
start_of place statement = place

-- a line, and the place of the next byte at it
pub record Placed : Type 0 where
  pub start : ℕ
  pub line : Line

-- the lines, each with its place, if the first of them is at this place
abbrev pub placed : ℕ → List Line → List Placed
placed place [] = []
placed place (line ∷ lines) =
    let start = start_of place line.statement in
    record { start = start; line = line } ∷ placed (start + count_of line.statement) lines

-- one of the line's bytes is at the place
abbrev pub covers : Placed → ℕ → Bool
covers at place = nat_le at.start place && nat_lt place (at.start + count_of at.line.statement)

-- one of the lines has filled the place
abbrev pub is_filled : List Placed → ℕ → Bool
is_filled lines place = list_any (λ at. covers at place) lines

-- the places of a program memory
unfoldable pub places : List ℕ
places = range_with_len 0 2048
