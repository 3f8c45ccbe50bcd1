use Rattle.std.proofs.Common.{◌≡◌, max, drop}
use Rattle.cycle_cert.specs.Answers.{greatest_of}
use Rattle.cycle_cert.proofs.judging.greatest.Given as goal

-- the greatest value so far, with those of the entries that are left
abbrev pub invariant-loop-entry : goal.invariant-loop-entry
invariant-loop-entry l = max l.greatest (greatest_of (drop l.entry-index l.entries)) ≡ greatest_of l.entries
