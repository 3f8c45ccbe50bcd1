-- What is pushed and the lines that are left make the text.
use Rattle.std.proofs.Common.{◌≡◌, ◌++◌, [], ◌∷◌, drop, flat_map}
use Rattle.mcs48_core.specs.StateText.{state_row, state_text_of}
use Rattle.mcs48_core.proofs.text.state_text.Given as goal

abbrev pub invariant-loop-row : goal.invariant-loop-row
invariant-loop-row l =
    l.text.items ++ flat_map (state_row l.mcu l.steps l.cycles) (drop l.row (0 ∷ 1 ∷ 2 ∷ 3 ∷ 4 ∷ []))
    ≡ state_text_of l.mcu l.steps l.cycles
