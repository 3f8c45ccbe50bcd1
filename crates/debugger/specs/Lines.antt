-- What a call with a line of a script answers and leaves.
use Rattle.std.specs.Prelude.{◌≡◌, ℕ, List, ◌++◌, Ok, Err}
use Rattle.std.specs.declared.result.Result.{Result}
use Rattle.debugger.specs.declared.rule.Rule.{Rule}
use Rattle.debugger.specs.declared.rule.LineFault.{LineFault}
use Rattle.debugger.specs.declared.rule.LineFault.TheVariants.{Memory}
use Rattle.debugger.specs.Faults.{line_fault}
use Rattle.debugger.specs.Sessions.{Debug}
use Rattle.debugger.specs.Effects.{LineEffect}

-- a line that breaks no rule is obeyed, and its text is put after what was printed, or memory ran out for the
-- text, and nothing was printed; of any other line the rule is answered, and all is as it was
abbrev pub IsLine : Result LineEffect Rule → Debug → List ℕ → Result (Unit {0}) LineFault → Debug → List ℕ → Type 0
IsLine (Ok t) old before (Ok done) new after = (t.debug ≡ new) × (after ≡ before ++ t.text)
IsLine (Ok t) old before (Err fault) new after = (fault ≡ Memory) × (t.debug ≡ new) × (after ≡ before)
IsLine (Err rule) old before (Ok done) new after = ⊥
IsLine (Err rule) old before (Err fault) new after = (fault ≡ line_fault rule) × (new ≡ old) × (after ≡ before)
