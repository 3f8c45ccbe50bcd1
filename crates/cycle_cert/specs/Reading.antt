-- A certificate's text, line by line.
use Rattle.std.specs.Prelude.{ℕ, ◌+◌, if◌then◌else◌, List, [], ◌∷◌, ◌++◌, Option, Some, None, Result, Ok, Err, is_some}
use Rattle.std.specs.Str.Lines.{lines}
use Rattle.text_lines.specs.Fields.{is_blank_line}
use Rattle.first_fault.specs.FirstFault.{Fault, and_then, some_or, unless, outcome}
use Rattle.cycle_cert.specs.declared.certificate.Entry.{Entry}
use Rattle.cycle_cert.specs.declared.fault.Rule.{Rule}
use Rattle.cycle_cert.specs.declared.fault.Rule.TheVariants.{Form, Twice, Empty}
use Rattle.cycle_cert.specs.declared.reading.Draft.{Draft}
use Rattle.cycle_cert.specs.Lines.{target_in, entry_in}
use Rattle.cycle_cert.specs.Certificates.{Certificate, bound_in}

-- before the first line: a draft has the number of lines so far, the target, if one gave it, and the certified places
abbrev pub nothing_read : Draft
nothing_read = record { lines = 0; target = None; table = [] }

-- one line more
abbrev pub line_more : Draft → Draft
line_more before = record before { lines = before.lines + 1 }

-- the first line that isn't blank gives the target
abbrev pub take_target : Draft → List ℕ → Result Draft Rule
take_target before line =
    and_then (some_or Form (target_in line))
    (λ place. Ok (record { lines = before.lines + 1; target = Some place; table = before.table }))

-- the rule that an entry breaks by its place
abbrev pub place_broken : Draft → Entry → Option Rule
place_broken before entry = if is_some (bound_in before.table entry.place) then Some Twice else None

-- each later one gives a place, which no earlier one gave
abbrev pub take_entry : Draft → List ℕ → Result Draft Rule
take_entry before line =
    and_then (some_or Form (entry_in (before.lines + 1) line))
    (λ entry. unless (place_broken before entry)
    (record { lines = before.lines + 1; target = before.target; table = before.table ++ entry ∷ [] }))

-- a line that isn't blank
abbrev pub take_written : Option ℕ → Draft → List ℕ → Result Draft Rule
take_written None before line = take_target before line
take_written (Some target) before line = take_entry before line

-- what a line makes of what the lines before it came to; a blank line says nothing
abbrev pub take_line : Draft → List ℕ → Result Draft Rule
take_line before line = if is_blank_line line then Ok (line_more before) else take_written before.target before line

-- what all lines come to, or the first fault
unfoldable pub draft_of : List ℕ → Result Draft (Fault Rule)
draft_of text = outcome take_line Ok nothing_read (lines text)

-- the certificate of the lines: a text without a line that isn't blank has none, at line 1
abbrev pub certificate_from : Draft → Result Certificate (Fault Rule)
certificate_from draft =
    elim draft.target [
      | None ↦ Err (record { item = 1; rule = Empty })
      | Some target ↦ Ok (record { target = target; entries = draft.table })
    ]

-- the certificate of a text, or the first fault of its lines
unfoldable pub certificate_of : List ℕ → Result Certificate (Fault Rule)
certificate_of text = and_then (draft_of text) certificate_from
