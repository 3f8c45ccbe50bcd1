-- What the lines of a script do in a session over a run, and what they print.
use Rattle.std.specs.Prelude.{◌≡◌, List, [], ◌∷◌, ◌++◌, take, ℕ, Ok}
use Rattle.std.specs.Str.Lines.{lines}
use Rattle.std.specs.declared.result.Result.{Result}
use Rattle.first_fault.specs.FirstFault.{and_then}
use Rattle.debugger.specs.declared.rule.Rule.{Rule}
use Rattle.run_probes.specs.Probes.{Watch}
use Rattle.debugger.specs.Sessions.{Debug, Debuggee}
use Rattle.debugger.specs.Effects.{LineEffect, line_effect, effect_of}

-- what was printed before
abbrev pub afterwards : List ℕ → LineEffect → LineEffect
afterwards text t = effect_of t.debug (text ++ t.text)

-- what lines do in a session, one after another, and what they print, or the first rule that one of them breaks
abbrev pub lines_effect : Debuggee → List (List ℕ) → Debug → Result LineEffect Rule
lines_effect s [] d = Ok (effect_of d [])
lines_effect s (line ∷ others) d =
    and_then (line_effect s line d) (λ t. and_then (lines_effect s others t.debug) (λ u. Ok (afterwards t.text u)))

-- a session begins at power-on, with the probes handed in
abbrev pub begun : List Watch → Debug
begun probes = record { steps = 0; probes = probes }

-- lines print this text in a session from its beginning on, and leave these probes
pub record AreObeyed (s : Debuggee) (lines : List (List ℕ)) (probes : List Watch) (text : List ℕ) (left : List Watch)
    : Type 0 where
  pub steps : ℕ
  pub effect_of : lines_effect s lines (begun probes) ≡ Ok (effect_of (record { steps = steps; probes = left }) text)

-- so do all lines of a script
abbrev pub IsObeyed : Debuggee → List ℕ → List Watch → List ℕ → List Watch → Type 0
IsObeyed s script probes text left = AreObeyed s (lines script) probes text left

-- its first lines, however many, leave these probes
abbrev pub IsObeyedInPart : Debuggee → List ℕ → List Watch → List Watch → Type 0
IsObeyedInPart s script probes left =
    (count : ℕ) × (text : List ℕ) × AreObeyed s (take count (lines script)) probes text left
