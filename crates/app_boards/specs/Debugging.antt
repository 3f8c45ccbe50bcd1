-- `debug` and `probe`: the first fault of a script, and its refusal.
use Rattle.std.specs.Prelude.{ℕ, List, None, Some, Ok, Err}
use Rattle.std.specs.declared.option.Option.{Option}
use Rattle.std.specs.declared.result.Result.{Result}
use Rattle.first_fault.specs.FirstFault.{Fault}
use Rattle.debugger.specs.Scripts.{number_of, script_of}
use Rattle.debugger.specs.declared.rule.SessionFault.{SessionFault}
use Rattle.debugger.specs.declared.rule.SessionFault.TheVariants.{Line}
use Rattle.app_words.specs.declared.refusal.Refusal.{Refusal}
use Rattle.app_words.specs.declared.refusal.Refusal.TheVariants.{Script}

-- the line and the number of a fault, by rules with these numbers
abbrev pub fault_in : {Rule : Type 0} → (Rule → ℕ) → Result ℕ (Fault Rule) → Option (ℕ × ℕ)
fault_in number (Ok left) = None
fault_in number (Err fault) = Some (fault.item, number fault.rule)

-- a script's first fault, if there are so many probes
abbrev pub script_fault : ℕ → List ℕ → Option (ℕ × ℕ)
script_fault probes script = fault_in number_of (script_of probes script)

-- the refusal of a script
abbrev pub script_refusal : SessionFault → Refusal
script_refusal (Line line number) = Script line number
