use Rattle.std.proofs.Common.{◌≡◌, List, ℕ, map, length}
use Rattle.std.specs.Option.{option_or}
use Rattle.std.specs.Str.Lines.{lines}
use Rattle.mcs48_asm.specs.Names.{value_named, definitions}
use Rattle.mcs48_asm.specs.Capped.{kept_places}
use Rattle.mcs48_asm.specs.Kept.{kept_line, kept_value}
use Rattle.mcs48_asm.proofs.names.names_in.Given as goal

-- the names so far, and those that the rest of the text defines
abbrev pub invariant-loop-line : goal.invariant-loop-line
invariant-loop-line l =
    (name : List ℕ) → option_or (kept_value l.names.entries name)
    (value_named (definitions (kept_places l.place (map kept_line (lines l.rest)))) name)
    ≡ value_named (definitions (kept_places 0 (map kept_line (lines l.text)))) name

abbrev pub decreases-loop-line : goal.decreases-loop-line
decreases-loop-line l = length l.rest
