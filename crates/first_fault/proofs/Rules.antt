-- The rules of one item.
use Rattle.std.proofs.Common.{◌≡◌, ℕ, Bool, true, false, List, [], ◌∷◌, ◌++◌, All, None, Some, Ok, Err, if◌then◌else◌, refl, ◌∙◌}
use Rattle.std.proofs.lemmas.List.Elements.{All-head, All-tail}
use Rattle.std.specs.declared.option.Option.{Option}
use Rattle.first_fault.specs.FirstFault.{Judgement, judge, first_broken, unless}
use Rattle.first_fault.specs.Law.{IsKept}

passed : (rule : ℕ) (broken : Bool) (rest : Option ℕ) → broken ≡ false → (if broken then Some rule else rest) ≡ rest
passed rule false rest is = refl
passed rule true rest is = absurd cc

-- the first rule that is broken after rules that aren't
pub lowest : (rule : ℕ) (lower higher : List (Judgement ℕ)) → All IsKept lower
    → first_broken (lower ++ judge rule true ∷ higher) ≡ Some rule
lowest rule [] higher kept = refl
lowest rule (first ∷ lower) higher kept =
    passed first.rule first.broken (first_broken (lower ++ judge rule true ∷ higher)) (All-head IsKept first lower kept)
    ∙ lowest rule lower higher (All-tail IsKept first lower kept)

-- if each rule is kept, none is the first that is broken
pub none_broken : (rules : List (Judgement ℕ)) → All IsKept rules → first_broken rules ≡ None
none_broken [] kept = refl
none_broken (first ∷ rules) kept =
    passed first.rule first.broken (first_broken rules) (All-head IsKept first rules kept)
    ∙ none_broken rules (All-tail IsKept first rules kept)

-- what an item comes to by that
pub refused : (value rule : ℕ) (broken : Option ℕ) → broken ≡ Some rule → unless broken value ≡ Err rule
refused value rule (Some other) is = cc
refused value rule None is = absurd cc

-- if no rule is broken, the item's value is taken
pub taken_so : (value : ℕ) (broken : Option ℕ) → broken ≡ None → unless broken value ≡ Ok value
taken_so value (Some rule) is = absurd cc
taken_so value None is = refl
