-- What a line of a listing says, as the assembler reads it.
use Rattle.std.proofs.Common.{◌≡◌, ℕ, ◌+◌, true, Bool, List, [], ◌∷◌, length, take, slice_index, Some, None, Option, if◌then◌else◌}
use Rattle.std.specs.List.{list_all}
use Rattle.mcs48_isa.specs.Listing.{instruction_at, statement_of, size_of}
use Rattle.mcs48_asm.specs.declared.flaw.Flaw.{Flaw}
use Rattle.mcs48_asm.specs.declared.flaw.Flaw.TheVariants.{PastEnd, PlaceTaken}
use Rattle.mcs48_asm.specs.Statements.{Statement, Line, line_of}
use Rattle.mcs48_asm.specs.Places.{Placed, count_of, start_of}
use Rattle.mcs48_asm.specs.Names.{Meanings, bytes_of, equated}
use Rattle.mcs48_asm.specs.Faults.{fault_of, is_past_end, is_filled_again}
use Rattle.mcs48_asm.proofs.Plain.{is_plain}

-- a line of this statement alone
abbrev pub said : Statement → Line
said statement = record { flaw = None; label = None; statement = statement }

-- and the same at a place
abbrev pub said_at : ℕ → Statement → Placed
said_at place statement = record { start = place; line = said statement }

-- the faults that come of where a line's bytes are
abbrev pub late_fault : (ℕ → Bool) → Placed → Option Flaw
late_fault filled at = if is_past_end at then Some PastEnd else (if is_filled_again filled at then Some PlaceTaken else None)

-- a text without LF that is read, at this place, as a statement with these bytes, which names nothing and has no fault of its own
pub record IsRead (text : List ℕ) (place : ℕ) (bytes : List ℕ) : Type 0 where
  pub statement : Statement
  pub plain : list_all is_plain text ≡ true
  pub line : line_of text ≡ said statement
  pub bytes_are : (names : Meanings) → bytes_of names statement ≡ bytes
  pub count : count_of statement ≡ length bytes
  pub start : (before : ℕ) → start_of before statement ≡ before
  pub no_name : equated statement ≡ []
  pub faults : (names seen : Meanings) (filled : ℕ → Bool)
      → fault_of names seen filled (said_at place statement) ≡ late_fault filled (said_at place statement)

-- the text of a place in a listing, without its LF
abbrev pub text_at : List ℕ → ℕ → List ℕ
text_at memory place = statement_of (instruction_at memory place) (slice_index memory place) place

-- the bytes that it writes
abbrev pub bytes_at : List ℕ → ℕ → List ℕ
bytes_at memory place = take (size_of (instruction_at memory place)) (slice_index memory place ∷ slice_index memory (place + 1) ∷ [])
