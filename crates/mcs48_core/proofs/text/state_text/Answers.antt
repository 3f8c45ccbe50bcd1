use Rattle.std.proofs.Common.{◌≡◌, ℕ, ◌+◌, ◌<◌, List, [], ◌∷◌, ◌++◌, drop, flat_map, refl, ap, ◌∙◌, append_assoc, arith}
use Rattle.mcs48_isa.proofs.Cases.{from_each}
use Rattle.mcs48_core.specs.StateText.{state_row}
use Rattle.mcs48_core.proofs.text.state_text.Goals as goal

-- the numbers of the lines
abbrev rows : List ℕ
rows = 0 ∷ 1 ∷ 2 ∷ 3 ∷ 4 ∷ []

-- the lines from a number on are its line and those after it
lines_from : (f : ℕ → List ℕ) (row : ℕ) → row < 5 → f row ++ flat_map f (drop (row + 1) rows) ≡ flat_map f (drop row rows)
lines_from f row h =
    from_each (λ row. f row ++ flat_map f (drop (row + 1) rows) ≡ flat_map f (drop row rows)) 0 5
    (refl, (refl, (refl, (refl, (refl, tt))))) row (omega arith) h

pub loop-row-preserved : goal.loop-row-preserved
loop-row-preserved c =
    let line = state_row c.args.mcu.now c.args.steps c.args.cycles in
    let pushed : c.extend_from_slice.new.self.items ≡ c.loop-row.text.items ++ line c.loop-row.row =
    c.in_ok-extend_from_slice.ensures.items
    ∙ ap (λ piece. c.loop-row.text.items ++ piece) (c.deref.ensures.0 ∙ c.state_line.ensures.line) in
    ap (λ text. text ++ flat_map line (drop (c.loop-row.row + 1) rows)) pushed ∙ append_assoc c.loop-row.text.items _ _
    ∙ ap (λ rest. c.loop-row.text.items ++ rest) (lines_from line c.loop-row.row c.loop-row-test.true) ∙ c.loop-row.invariant
