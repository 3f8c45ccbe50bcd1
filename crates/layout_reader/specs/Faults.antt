-- The faults of a layout document.
use Rattle.std.specs.Prelude.{ℕ, Bool, if◌then◌else◌, List, [], ◌∷◌, Option, Some, None, Result, Ok, Err}
use Rattle.layout_reader.specs.declared.cause.Cause.{Cause}
use Rattle.layout_reader.specs.declared.cause.Cause.TheVariants.{NotToml, UnknownField, MissingField, WrongKind}
use Rattle.layout_reader.specs.declared.cause.Cause.TheVariants.{WrongFormat, UnknownKey, PlaceOutOfRange}
use Rattle.layout_reader.specs.declared.cause.Cause.TheVariants.{PlaceTaken, RateOutOfRange, NoEntries}
use Rattle.layout_reader.specs.declared.cause.Cause.TheVariants.{KeyNamedBefore, FnNamedBefore, FnSends}

-- the number by which a message names the fault
abbrev pub number_of : Cause → ℕ
number_of NotToml = 1
number_of UnknownField = 2
number_of MissingField = 3
number_of WrongKind = 4
number_of WrongFormat = 5
number_of UnknownKey = 6
number_of PlaceOutOfRange = 7
number_of PlaceTaken = 8
number_of RateOutOfRange = 9
number_of NoEntries = 10
number_of KeyNamedBefore = 11
number_of FnNamedBefore = 12
number_of FnSends = 13

-- one question of the judgement: the fault, and whether it is there
pub record Judgement : Type 0 where
  pub cause : Cause
  pub holds : Bool

abbrev pub judge : Cause → Bool → Judgement
judge cause holds = record { cause = cause; holds = holds }

-- the first fault that is there, of questions in their order
abbrev pub first_of : List Judgement → Option Cause
first_of [] = None
first_of (question ∷ more) = if question.holds then Some question.cause else first_of more

-- the value, if there is no fault
abbrev pub unless : {X : Type 0} → Option Cause → X → Result X Cause
unless (Some cause) value = Err cause
unless None value = Ok value

-- a fault with the entry that has it: 0 is the top level, entries count from 1
pub record Refusal : Type 0 where
  pub entry : ℕ
  pub number : ℕ

-- what was judged for this entry, as an answer for the document
abbrev pub at_entry : {X : Type 0} → ℕ → Result X Cause → Result X Refusal
at_entry entry (Ok value) = Ok value
at_entry entry (Err cause) = Err (record { entry = entry; number = number_of cause })

-- what follows, if there is no fault
abbrev pub and_then : {X Y : Type 0} → Result X Refusal → (X → Result Y Refusal) → Result Y Refusal
and_then (Ok value) next = next value
and_then (Err refusal) next = Err refusal
