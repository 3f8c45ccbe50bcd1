-- The image of a text, or its first fault.
use Rattle.std.specs.Prelude.{ℕ, ◌+◌, ◌-◌, List, [], ◌∷◌, ◌++◌, map, length, Some, None, Ok, Err, slice_index}
use Rattle.std.specs.Prelude.{if◌then◌else◌}
use Rattle.std.specs.Option.{option_map, option_or}
use Rattle.std.specs.Char.{to_ascii_uppercase}
use Rattle.std.specs.Str.Lines.{lines}
use Rattle.std.specs.declared.option.Option.{Option}
use Rattle.std.specs.declared.result.Result.{Result}
use Rattle.mcs48_asm.specs.declared.flaw.Flaw.{Flaw}
use Rattle.mcs48_asm.specs.Flaws.{number_of}
use Rattle.mcs48_asm.specs.Statements.{line_of}
use Rattle.mcs48_asm.specs.Places.{Placed, placed, places, covers, is_filled}
use Rattle.mcs48_asm.specs.Names.{Meanings, definitions, value_named, bytes_of}
use Rattle.mcs48_asm.specs.Faults.{fault_of}

-- the lines of a text, each with its place; letters are equal in both cases
abbrev pub lines_in : List ℕ → List Placed
lines_in text = placed 0 (map line_of (lines (map to_ascii_uppercase text)))

-- a line, counted from 1, and the number of its fault
abbrev pub Fault : Type 0
Fault = ℕ × ℕ

-- the first flaw of a line after these lines
abbrev pub fault_after : Meanings → List Placed → Placed → Option Flaw
fault_after names earlier at = fault_of names (value_named (definitions earlier)) (is_filled earlier) at

-- the first faulty line after these lines, and its fault
abbrev pub first_fault : Meanings → List Placed → List Placed → Option Fault
first_fault names earlier [] = None
first_fault names earlier (at ∷ rest) =
    option_or
    (option_map (λ flaw. (length earlier + 1, number_of flaw)) (fault_after names earlier at))
    (first_fault names (earlier ++ at ∷ []) rest)

-- the byte at a place: that of the line that fills it, and 00 if none does
abbrev pub byte_at : Meanings → List Placed → ℕ → ℕ
byte_at names [] place = 0
byte_at names (at ∷ rest) place =
    if covers at place
    then slice_index (bytes_of names at.line.statement) (place - at.start)
    else byte_at names rest place

-- the image that lines fill
abbrev pub image_of : Meanings → List Placed → List ℕ
image_of names lines = map (byte_at names lines) places

-- the image, unless there is a fault
abbrev pub image_unless : Option Fault → List ℕ → Result (List ℕ) Fault
image_unless None image = Ok image
image_unless (Some fault) image = Err fault

-- the image of lines, or their first fault, if names mean this
abbrev pub outcome_of : Meanings → List Placed → Result (List ℕ) Fault
outcome_of names lines = image_unless (first_fault names [] lines) (image_of names lines)

-- the image of lines, or their first fault: a name means what one of them defines it to be
abbrev pub answer_of : List Placed → Result (List ℕ) Fault
answer_of lines = outcome_of (value_named (definitions lines)) lines

-- the image of a text, or its first fault
abbrev pub assembly_of : List ℕ → Result (List ℕ) Fault
assembly_of text = answer_of (lines_in text)
