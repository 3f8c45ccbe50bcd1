-- The rules of HEX, and what a line does that breaks none of them. The lines before it came to a `Progress`: the memory
-- that they filled, and whether one of them ended the file.
use Rattle.std.specs.Prelude.{ℕ, Bool, true, false, not, ◌&&◌, ◌||◌, List, [], ◌∷◌, length, None, Some, ◌==◌}
use Rattle.std.specs.Prelude.{if◌then◌else◌}
use Rattle.std.specs.Str.{bytes_eq}
use Rattle.std.specs.declared.option.Option.{Option}
use Rattle.hexfile.specs.Record.{Record}
use Rattle.hexfile.specs.Memory.{is_past, is_given_twice, with_data}
use Rattle.hexfile.specs.declared.fault.Rule.{Rule}
use Rattle.hexfile.specs.declared.fault.Rule.TheVariants.{Form, Sum, Kind, Address, Overlap, NoEnd, AfterEnd}
use Rattle.hexfile.specs.declared.progress.Progress.{Progress}

-- the number of each rule
abbrev pub number_of : Rule → ℕ
number_of Form = 1
number_of Sum = 2
number_of Kind = 3
number_of Address = 4
number_of Overlap = 5
number_of NoEnd = 6
number_of AfterEnd = 7

-- a line of type 00 gives data
abbrev pub is_data : Record → Bool
is_data line = line.kind == 0

-- a line of type 01 ends the file
abbrev pub is_end : Record → Bool
is_end line = line.kind == 1

-- a line of type 02 or 04 gives an upper part of addresses
abbrev pub is_upper_address : Record → Bool
is_upper_address line = line.kind == 2 || line.kind == 4

-- a line of type 03 or 05 gives a start address
abbrev pub is_start_address : Record → Bool
is_start_address line = line.kind == 3 || line.kind == 5

-- data are of any number, an end has none, an upper part of addresses is 0000, a start address has four bytes, and
-- there is no other type
abbrev pub fits_kind : Record → Bool
fits_kind line =
    if is_data line then true
    else (if is_end line then length line.bytes == 0
    else (if is_upper_address line then bytes_eq line.bytes (0 ∷ 0 ∷ [])
    else (if is_start_address line then length line.bytes == 4 else false)))

-- the rules of a line that has the form, in the order of their numbers, each with whether the line breaks it: its bytes
-- don't sum to 0; its type is none or has other bytes; it gives a byte past the last place; it gives a place that was
-- given; it follows the end
abbrev pub judgements : Progress → Record → List (Rule × Bool)
judgements before line =
    (Sum, not (line.total == 0))
    ∷ (Kind, not (fits_kind line))
    ∷ (Address, is_data line && is_past line)
    ∷ (Overlap, is_data line && is_given_twice before.memory line)
    ∷ (AfterEnd, before.ended)
    ∷ []

-- the first of these rules that is broken
abbrev pub first_broken : List (Rule × Bool) → Option Rule
first_broken [] = None
first_broken (judged ∷ more) = if judged.1 then Some judged.0 else first_broken more

-- data are put into the memory, an end ends the file, and no other line has an effect
abbrev pub after_record : Progress → Record → Progress
after_record before line =
    if is_data line then record before { memory = with_data before.memory line }
    else (if is_end line then record before { ended = true } else before)
