-- What is answered if a line has a fault.
use Rattle.std.specs.Prelude.{◌≡◌, ℕ, List, Result, Ok, Err}
use Rattle.first_fault.specs.FirstFault.{Fault}
use Rattle.debugger.specs.declared.rule.Rule.{Rule}
use Rattle.debugger.specs.declared.rule.Rule.TheVariants.{Form, Probe}
use Rattle.debugger.specs.declared.rule.LineFault.{LineFault}
use Rattle.debugger.specs.declared.rule.LineFault.TheVariants.{Bad, NoProbe}
use Rattle.debugger.specs.declared.rule.SessionFault.{SessionFault}
use Rattle.debugger.specs.declared.rule.SessionFault.TheVariants.{Line}
use Rattle.debugger.specs.Scripts.{number_of, script_of}

-- a rule that is broken at a line of a script
abbrev pub at_line : ℕ → Rule → SessionFault
at_line line rule = Line line (number_of rule)

-- a rule that is broken by a line alone
abbrev pub line_fault : Rule → LineFault
line_fault Form = Bad
line_fault Probe = NoProbe

-- a script without a fault is right, and of any other the first fault is reported
abbrev pub IsVerdict : Result ℕ (Fault Rule) → Result (Unit {0}) SessionFault → Type 0
IsVerdict (Ok left) (Ok done) = Unit {0}
IsVerdict (Ok left) (Err fault) = ⊥
IsVerdict (Err first) (Ok done) = ⊥
IsVerdict (Err first) (Err fault) = fault ≡ at_line first.item first.rule

-- a script is right if there are so many probes
abbrev pub IsRight : ℕ → List ℕ → Type 0
IsRight probes text = IsVerdict (script_of probes text) (Ok tt)
