-- What the first fault is, as laws over numbers: items, rules and what items give are numbers here.
use Rattle.std.specs.Prelude.{◌≡◌, ℕ, ◌+◌, false, true, List, [], ◌∷◌, ◌++◌, length, All, Ok, Err}
use Rattle.std.specs.declared.result.Result.{Result}
use Rattle.first_fault.specs.FirstFault.{Judgement, judge, first_broken, unless, and_then, outcome}

-- what items give that are taken one after another, or the first rule that one of them breaks
abbrev pub taken : (ℕ → ℕ → Result ℕ ℕ) → ℕ → List ℕ → Result ℕ ℕ
taken take before [] = Ok before
taken take before (item ∷ more) = and_then (take before item) (λ after. taken take after more)

-- an item that breaks a rule after items that break none is the first fault, whatever follows it
abbrev pub RefusesTheFirst : Type 0
RefusesTheFirst = (take : ℕ → ℕ → Result ℕ ℕ) (finish : ℕ → Result ℕ ℕ)
    (at_first after item rule : ℕ) (earlier later : List ℕ)
    → taken take at_first earlier ≡ Ok after → take after item ≡ Err rule
    → outcome take finish at_first (earlier ++ item ∷ later) ≡ Err (record { item = length earlier + 1; rule = rule })

-- a rule that isn't broken
abbrev pub IsKept : Judgement ℕ → Type 0
IsKept judgement = judgement.broken ≡ false

-- what an item comes to that is judged by rules in their order
abbrev pub judged_by : (ℕ → ℕ → List (Judgement ℕ)) → (ℕ → ℕ → ℕ) → ℕ → ℕ → Result ℕ ℕ
judged_by rules makes before item = unless (first_broken (rules before item)) (makes before item)

-- it is refused with the lowest rule that it breaks, whatever higher ones it breaks
abbrev pub RefusesByTheLowest : Type 0
RefusesByTheLowest = (rules : ℕ → ℕ → List (Judgement ℕ)) (makes : ℕ → ℕ → ℕ) (before item rule : ℕ)
    (lower higher : List (Judgement ℕ))
    → rules before item ≡ lower ++ judge rule true ∷ higher → All IsKept lower
    → judged_by rules makes before item ≡ Err rule

-- and it is taken if it breaks none
abbrev pub TakesWhatIsRight : Type 0
TakesWhatIsRight = (rules : ℕ → ℕ → List (Judgement ℕ)) (makes : ℕ → ℕ → ℕ) (before item : ℕ)
    → All IsKept (rules before item) → judged_by rules makes before item ≡ Ok (makes before item)

-- if no item breaks a rule, the end is judged, and counts as one item more
abbrev pub JudgesTheEnd : Type 0
JudgesTheEnd = (take : ℕ → ℕ → Result ℕ ℕ) (finish : ℕ → Result ℕ ℕ) (at_first after : ℕ) (items : List ℕ)
    → taken take at_first items ≡ Ok after
    → ((rule : ℕ) → finish after ≡ Err rule
    → outcome take finish at_first items ≡ Err (record { item = length items + 1; rule = rule }))
    × ((value : ℕ) → finish after ≡ Ok value → outcome take finish at_first items ≡ Ok value)
