-- Items that break no rule, before one that does.
use Rattle.std.proofs.Common.{◌≡◌, ℕ, ◌+◌, List, [], ◌∷◌, ◌++◌, length, Ok, Err, refl, ap, ◌∙◌, arith}
use Rattle.std.specs.declared.result.Result.{Result}
use Rattle.first_fault.specs.FirstFault.{Fault, and_then, outcome_from, at_item}
use Rattle.first_fault.specs.Law.{taken}

-- a refusal of an item
abbrev pub refusal : ℕ → ℕ → Result ℕ (Fault ℕ)
refusal rule item = Err (record { item = item; rule = rule })

one_more : (take : ℕ → ℕ → Result ℕ ℕ) (finish : ℕ → Result ℕ ℕ) (number after item rule : ℕ) (earlier later : List ℕ) (result : Result ℕ ℕ)
    → and_then result (λ next. taken take next earlier) ≡ Ok after
    → ((next : ℕ) → taken take next earlier ≡ Ok after
    → outcome_from take finish (number + 1) next (earlier ++ item ∷ later) ≡ refusal rule (number + 1 + length earlier))
    → and_then (at_item number result) (λ next. outcome_from take finish (number + 1) next (earlier ++ item ∷ later))
    ≡ refusal rule (number + 1 + length earlier)
one_more take finish number after item rule earlier later (Ok next) all then = then next all
one_more take finish number after item rule earlier later (Err broken) all then = absurd (cc)

stops : (take : ℕ → ℕ → Result ℕ ℕ) (finish : ℕ → Result ℕ ℕ) (number rule : ℕ) (later : List ℕ) (result : Result ℕ ℕ) → result ≡ Err rule
    → and_then (at_item number result) (λ next. outcome_from take finish (number + 1) next later) ≡ refusal rule number
stops take finish number rule later result is = rw is refl

-- if the items before one break no rule and it does, the refusal names its number and the rule
pub refuses_from : (take : ℕ → ℕ → Result ℕ ℕ) (finish : ℕ → Result ℕ ℕ) (number before after item rule : ℕ) (earlier later : List ℕ)
    → taken take before earlier ≡ Ok after → take after item ≡ Err rule
    → outcome_from take finish number before (earlier ++ item ∷ later) ≡ refusal rule (number + length earlier)
refuses_from take finish number before after item rule [] later all breaks =
    let same : before ≡ after = cc in
    stops take finish number rule later (take before item) (ap (λ b. take b item) same ∙ breaks) ∙ ap (refusal rule) (omega arith)
refuses_from take finish number before after item rule (first ∷ earlier) later all breaks =
    one_more take finish number after item rule earlier later (take before first) all
    (λ next rest. refuses_from take finish (number + 1) next after item rule earlier later rest breaks)
    ∙ ap (refusal rule) (omega arith)
