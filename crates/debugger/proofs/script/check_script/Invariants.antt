use Rattle.std.proofs.Common.{◌≡◌, ◌≤◌, ◌+◌, Ok, length}
use Rattle.std.specs.Str.Lines.{lines}
use Rattle.first_fault.specs.FirstFault.{outcome_from}
use Rattle.debugger.specs.Scripts.{take_line, script_of}
use Rattle.debugger.proofs.script.check_script.Given as goal

-- the other lines come, from what those so far left, to what all come to; each line took a character at least
abbrev pub invariant-loop-line : goal.invariant-loop-line
invariant-loop-line l = record {
  others : outcome_from take_line Ok (l.number + 1) l.left (lines l.rest) ≡ script_of l.probes l.text;
  within : l.number + length l.rest ≤ length l.text;
}

abbrev pub decreases-loop-line : goal.decreases-loop-line
decreases-loop-line l = length l.rest
