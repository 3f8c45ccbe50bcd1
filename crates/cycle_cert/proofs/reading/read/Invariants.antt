use Rattle.std.proofs.Common.{◌≡◌, ◌≤◌, ◌+◌, Ok, length}
use Rattle.std.specs.Str.Lines.{lines}
use Rattle.first_fault.specs.FirstFault.{outcome_from}
use Rattle.cycle_cert.specs.Reading.{take_line, draft_of}
use Rattle.cycle_cert.proofs.reading.read.Given as goal

-- the other lines come, from what those so far came to, to what all come to; each line took a character at least
abbrev pub invariant-loop-line : goal.invariant-loop-line
invariant-loop-line l = record {
  others : outcome_from take_line Ok (l.draft.lines + 1) l.draft (lines l.rest) ≡ draft_of l.text;
  few : length l.draft.table ≤ l.draft.lines;
  within : l.draft.lines + length l.rest ≤ length l.text;
}

abbrev pub decreases-loop-line : goal.decreases-loop-line
decreases-loop-line l = length l.rest
