-- A limit of steps, if there is one.
use Rattle.std.proofs.Common.{◌≡◌, ◌≤◌, ◌<◌, ◌+◌, ℕ, suc, Some, None, arith}
use Rattle.std.specs.Prelude.{IfSome, MatchOption}
use Rattle.std.specs.declared.option.Option.{Option}

-- after no more steps than so many, which are less than the limit, it isn't reached
pub within_limit : (from made to : ℕ) (steps : Option ℕ) → IfSome steps (λ most. made < most) → to ≤ from + made
    → IfSome steps (λ most. to < from + most)
within_limit from made to None h l = tt
within_limit from made to (Some most) h l = omega (arith, h, l)

-- after one more it isn't passed
pub few_after : (from made to : ℕ) (steps : Option ℕ) → IfSome steps (λ most. made < most) → to ≤ suc (from + made)
    → IfSome steps (λ most. to ≤ from + most)
few_after from made to None h l = tt
few_after from made to (Some most) h l = omega (arith, h, l)

-- if it isn't passed, and as many steps were made, it is reached
pub at_limit : (from made to : ℕ) (steps : Option ℕ) → MatchOption steps ⊥ (λ most. most ≤ made)
    → IfSome steps (λ most. to ≤ from + most) → to ≡ from + made → MatchOption steps ⊥ (λ most. to ≡ from + most)
at_limit from made to None h l e = h
at_limit from made to (Some most) h l e = omega (arith, h, l, e)

-- before the first step it isn't passed
pub none_made : (from : ℕ) (steps : Option ℕ) → IfSome steps (λ most. from ≤ from + most)
none_made from None = tt
none_made from (Some most) = omega arith
