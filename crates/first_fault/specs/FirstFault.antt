-- The first fault of a file: its first item, in the order of the items, that breaks a rule, and the first rule, in the
-- order of the rules, that this item breaks. An item is judged with what the items before it came to.
use Rattle.std.specs.Prelude.{ℕ, ◌+◌, Bool, List, [], ◌∷◌, None, Some, Ok, Err, if◌then◌else◌}
use Rattle.std.specs.declared.option.Option.{Option}
use Rattle.std.specs.declared.result.Result.{Result}

-- a rule, and whether it is broken
pub record Judgement (Rule : Type 0) : Type 0 where
  pub rule : Rule
  pub broken : Bool

abbrev pub judge : {Rule : Type 0} → Rule → Bool → Judgement Rule
judge rule broken = record { rule = rule; broken = broken }

-- the first rule that is broken, of rules in their order
abbrev pub first_broken : {Rule : Type 0} → List (Judgement Rule) → Option Rule
first_broken [] = None
first_broken (judgement ∷ more) = if judgement.broken then Some judgement.rule else first_broken more

-- a value, if no rule is broken
abbrev pub unless : {Rule X : Type 0} → Option Rule → X → Result X Rule
unless None value = Ok value
unless (Some rule) value = Err rule

-- a value, if there is one; that there is none breaks a rule
abbrev pub some_or : {Rule X : Type 0} → Rule → Option X → Result X Rule
some_or rule (Some value) = Ok value
some_or rule None = Err rule

-- what follows, if no rule is broken
abbrev pub and_then : {Rule X Y : Type 0} → Result X Rule → (X → Result Y Rule) → Result Y Rule
and_then (Ok value) next = next value
and_then (Err rule) next = Err rule

-- an item that breaks a rule, by its number
pub record Fault (Rule : Type 0) : Type 0 where
  pub item : ℕ
  pub rule : Rule

-- what was judged of the item with this number
abbrev pub at_item : {Rule X : Type 0} → ℕ → Result X Rule → Result X (Fault Rule)
at_item number (Ok value) = Ok value
at_item number (Err rule) = Err (record { item = number; rule = rule })

-- what items give, the first of which has this number. `take` says what an item makes of what those before it came
-- to, or the first rule that it breaks; `finish` judges the end, which counts as one item more
abbrev pub outcome_from : {Item Before Rule X : Type 0} → (Before → Item → Result Before Rule)
    → (Before → Result X Rule) → ℕ → Before → List Item → Result X (Fault Rule)
outcome_from take finish number before [] = at_item number (finish before)
outcome_from take finish number before (item ∷ more) =
    and_then (at_item number (take before item)) (λ after. outcome_from take finish (number + 1) after more)

-- what the items of a file come to, or the first fault; items count from 1
abbrev pub outcome : {Item Before Rule X : Type 0} → (Before → Item → Result Before Rule)
    → (Before → Result X Rule) → Before → List Item → Result X (Fault Rule)
outcome take finish at_first items = outcome_from take finish 1 at_first items
