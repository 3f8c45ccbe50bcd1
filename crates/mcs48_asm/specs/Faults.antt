-- The faults of a line.
use Rattle.std.specs.Prelude.{ℕ, ◌+◌, ◌/◌, Bool, true, false, not, ◌==◌, ◌&&◌, ◌||◌, List, [], ◌∷◌, map, Some, None}
use Rattle.std.specs.Prelude.{nat_lt, is_some, is_none, if◌then◌else◌}
use Rattle.std.specs.List.{list_any}
use Rattle.std.specs.Option.{option_map_or, option_or}
use Rattle.std.specs.declared.option.Option.{Option}
use Rattle.mcs48_asm.specs.declared.argument.Role.{Role}
use Rattle.mcs48_asm.specs.declared.argument.Role.TheVariants.{Byte, Address, Target}
use Rattle.mcs48_asm.specs.declared.flaw.Flaw.{Flaw}
use Rattle.mcs48_asm.specs.declared.flaw.Flaw.TheVariants.{Misfit, UnknownName, NameTaken, OffPage, PastEnd, PlaceTaken}
use Rattle.mcs48_asm.specs.Values.{Value, Number}
use Rattle.mcs48_asm.specs.Rows.{Argument, is_reserved}
use Rattle.mcs48_asm.specs.Statements.{Statement, Instruction, Origin, Data, Equate, Line}
use Rattle.mcs48_asm.specs.Places.{Placed, places, count_of, covers}
use Rattle.mcs48_asm.specs.Names.{Meanings, labelled, equated, defined, meaning}

-- the values of a statement, and how its bytes take them
abbrev pub arguments : Statement → List Argument
arguments (Instruction opcode (Some argument)) = argument ∷ []
arguments (Data values) = map (λ value. record { role = Byte; value = value }) values
arguments statement = []

-- a value means a number past this one
abbrev pub is_above : Meanings → ℕ → Value → Bool
is_above names limit value = option_map_or (λ n. nat_lt limit n) (meaning names value) false

-- a number past 65,535
abbrev pub is_huge : Value → Bool
is_huge (Number n) = nat_lt 65535 n
is_huge value = false

-- a value that is too large for a role; a target that is a name only has to lie in its page
abbrev pub is_past : Meanings → Role → Value → Bool
is_past names Byte value = is_above names 255 value
is_past names Address value = is_above names 2047 value
is_past names Target value = is_huge value

-- a value that is too large for its place
abbrev pub is_too_large : Meanings → Argument → Bool
is_too_large names argument = is_past names argument.role argument.value

-- the number of ORG is at most 2,048, that of EQU at most 65,535
abbrev pub has_wrong_number : Statement → Bool
has_wrong_number (Origin number) = nat_lt 2048 number
has_wrong_number (Equate name number) = nat_lt 65535 number
has_wrong_number statement = false

-- an EQU line
abbrev pub is_equate : Statement → Bool
is_equate (Equate name number) = true
is_equate statement = false

-- a label is before EQU
abbrev pub has_labelled_equate : Line → Bool
has_labelled_equate line = is_some line.label && is_equate line.statement

-- fault 3: a value or a number is too large, a reserved name is defined, or a label is before EQU
abbrev pub is_refused : Meanings → Placed → Bool
is_refused names at =
    list_any (is_too_large names) (arguments at.line.statement)
    || has_wrong_number at.line.statement
    || list_any (λ definition. is_reserved definition.name) (labelled at)
    || list_any (λ definition. is_reserved definition.name) (equated at.line.statement)
    || has_labelled_equate at.line

-- fault 4: a name that no line defines
abbrev pub has_unknown_name : Meanings → Placed → Bool
has_unknown_name names at = list_any (λ argument. is_none (meaning names argument.value)) (arguments at.line.statement)

-- fault 5: a name that an earlier line defines
abbrev pub is_defined_again : Meanings → Placed → Bool
is_defined_again seen at = list_any (λ definition. is_some (seen definition.name)) (defined at)

-- a value is a target outside the page of the place after this one
abbrev pub is_outside : Meanings → ℕ → Role → Value → Bool
is_outside names start Target value =
    option_map_or (λ n. not (n / 256 == (start + 1) / 256)) (meaning names value) false
is_outside names start role value = false

-- fault 6: a jump whose target isn't in the page of its second byte
abbrev pub is_off_page : Meanings → Placed → Bool
is_off_page names at =
    list_any (λ argument. is_outside names at.start argument.role argument.value) (arguments at.line.statement)

-- fault 7: a byte past place 2,047
abbrev pub is_past_end : Placed → Bool
is_past_end at = nat_lt 0 (count_of at.line.statement) && nat_lt 2048 (at.start + count_of at.line.statement)

-- fault 8: a place below 2,048 that an earlier line has filled; the bytes of one line are at places of their own
abbrev pub is_filled_again : (ℕ → Bool) → Placed → Bool
is_filled_again filled at = list_any (λ place. covers at place && filled place) places

-- the first flaw of a line, if names mean this, earlier lines define these names, and have filled these places
abbrev pub fault_of : Meanings → Meanings → (ℕ → Bool) → Placed → Option Flaw
fault_of names seen filled at =
    option_or at.line.flaw
    (if is_refused names at then Some Misfit
    else (if has_unknown_name names at then Some UnknownName
    else (if is_defined_again seen at then Some NameTaken
    else (if is_off_page names at then Some OffPage
    else (if is_past_end at then Some PastEnd
    else (if is_filled_again filled at then Some PlaceTaken
    else None))))))
