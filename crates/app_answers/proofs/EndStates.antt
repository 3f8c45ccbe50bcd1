-- The text of the state at a run's end, row by row.
use Rattle.std.proofs.Common.{◌≡◌, ℕ, Bool, List, [], ◌++◌, ap, sym, ◌∙◌}
use Rattle.std.specs.Prelude.{if◌then◌else◌}
use Rattle.std.proofs.lemmas.List.{append-nil, append_assoc}
use Rattle.mcs48_core.specs.Cpu.{Cpu}
use Rattle.mcs48_core.specs.StateText.{state_row, state_text_of}

-- five rows, put one after the other
five : (a b c d e : List ℕ) → a ++ b ++ c ++ d ++ e ≡ a ++ (b ++ (c ++ (d ++ (e ++ []))))
five a b c d e =
    append_assoc (a ++ b ++ c) d e ∙ append_assoc (a ++ b) c (d ++ e) ∙ append_assoc a b (c ++ (d ++ e))
    ∙ ap (λ t. a ++ (b ++ (c ++ (d ++ t)))) (sym (append-nil e))

-- the five rows of a state, put one after another, are the state's text
pub rows_put : (m : Cpu) (steps cycles : ℕ) (none first second third fourth fifth : List ℕ)
    → none ≡ [] → first ≡ none ++ state_row m steps cycles 0
    → second ≡ first ++ state_row m steps cycles 1 → third ≡ second ++ state_row m steps cycles 2
    → fourth ≡ third ++ state_row m steps cycles 3 → fifth ≡ fourth ++ state_row m steps cycles 4 → fifth ≡ state_text_of m steps cycles
rows_put m steps cycles none first second third fourth fifth n a b c d e =
    e ∙ rw (d, c, b, a, n)
    (five (state_row m steps cycles 0) (state_row m steps cycles 1) (state_row m steps cycles 2)
    (state_row m steps cycles 3) (state_row m steps cycles 4))

-- the state at a run's end, if it is wanted
pub same_state : (wanted : Bool) (m m' : Cpu) (steps steps' cycles cycles' : ℕ) → m ≡ m' → steps ≡ steps' → cycles ≡ cycles'
    → (if wanted then state_text_of m steps cycles else []) ≡ (if wanted then state_text_of m' steps' cycles' else [])
same_state wanted m m' steps steps' cycles cycles' a b c =
    ap (λ v. if wanted then state_text_of v steps cycles else []) a ∙ ap (λ v. if wanted then state_text_of m' v cycles else []) b
    ∙ ap (λ v. if wanted then state_text_of m' steps' v else []) c
