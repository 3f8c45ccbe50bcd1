-- Which image a HEX text gives, or which rule it breaks first.
use Rattle.std.specs.Prelude.{ℕ, ◌+◌, false, List, [], ◌∷◌, None, Some, Ok, Err, if◌then◌else◌}
use Rattle.std.specs.Str.Lines.{lines}
use Rattle.std.specs.declared.option.Option.{Option}
use Rattle.std.specs.declared.result.Result.{Result}
use Rattle.hexfile.specs.Record.{Record, record_in}
use Rattle.hexfile.specs.Memory.{empty_memory, image_of}
use Rattle.hexfile.specs.Rules.{number_of, judgements, first_broken, after_record}
use Rattle.hexfile.specs.declared.fault.HexFault.{HexFault}
use Rattle.hexfile.specs.declared.fault.Rule.{Rule}
use Rattle.hexfile.specs.declared.fault.Rule.TheVariants.{Form, NoEnd}
use Rattle.hexfile.specs.declared.progress.Progress.{Progress}

-- the 2,048 bytes of a program memory, or the line, counted from 1, and the number of the first rule that is broken
abbrev pub HexOutcome : Type 0
HexOutcome = Result (List ℕ) HexFault

-- a rule that is broken at a line
abbrev pub fault_at : ℕ → Rule → HexFault
fault_at number rule = record { line = number; number = number_of rule }

-- what a record does to what the lines before it came to, or the first rule that it breaks
abbrev pub after_rules : Option Rule → Progress → Record → Result Progress Rule
after_rules None before line = Ok (after_record before line)
after_rules (Some rule) before line = Err rule

-- what a line does, or the first rule that it breaks: that is the form, if it is no record
abbrev pub after_form : Option Record → Progress → Result Progress Rule
after_form None before = Err Form
after_form (Some line) before = after_rules (first_broken (judgements before line)) before line

-- what a line does to what the lines before it came to, or the first rule that it breaks; an empty line does nothing
abbrev pub after_line : Progress → List ℕ → Result Progress Rule
after_line before [] = Ok before
after_line before (mark ∷ digits) = after_form (record_in (mark ∷ digits)) before

-- before the first line the memory is empty, and nothing has ended
abbrev pub at_first : Progress
at_first = record { memory = empty_memory; ended = false }

-- if no line breaks a rule, a text needs an end
abbrev pub outcome_of : ℕ → Progress → HexOutcome
outcome_of number after = if after.ended then Ok (image_of after.memory) else Err (fault_at number NoEnd)

-- what a line with this number came to, and what the lines after it come to then
abbrev pub and_then_at : ℕ → Result Progress Rule → (Progress → HexOutcome) → HexOutcome
and_then_at number (Ok after) next = next after
and_then_at number (Err rule) next = Err (fault_at number rule)

-- what lines come to, the first of which has this number
abbrev pub hex_from : ℕ → Progress → List (List ℕ) → HexOutcome
hex_from number before [] = outcome_of number before
hex_from number before (line ∷ more) =
    and_then_at number (after_line before line) (λ after. hex_from (number + 1) after more)

-- the outcome of a HEX text: its lines are judged in order; a CR before an LF is dropped, and a last line without LF
-- counts
unfoldable pub hex_of : List ℕ → HexOutcome
hex_of text = hex_from 1 at_first (lines text)
