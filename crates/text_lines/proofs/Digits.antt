-- The digits of a number, one after another.
use Rattle.std.proofs.Common.{◌≡◌, ℕ, ◌+◌, ◌*◌, ◌^◌, ◌<◌, ◌≤◌, List, length, drop, get_or, None, Some, refl, ◌∙◌, arith, add-one, drop-cons}
use Rattle.std.specs.Prelude.{IfSome}
use Rattle.std.specs.declared.option.Option.{Option}
use Rattle.std.proofs.Math.Nat.{pow-le-pow_right}
use Rattle.text_lines.specs.Numbers.{number_after}

-- a power with at most this exponent
pub room : (base i most : ℕ) → 0 < base → i ≤ most → base ^ i ≤ base ^ most
room base i most some within = pow-le-pow_right some within

-- a digit more
pub number_after-next : (base : ℕ) (digit : ℕ → Option ℕ) (n i d : ℕ) (text : List ℕ) → i < length text → digit (get_or text i 0) ≡ Some d
    → number_after base digit n (drop i text) ≡ number_after base digit (base * n + d) (drop (i + 1) text)
number_after-next base digit n i d text within is = rw (add-one, drop-cons text i 0) (rw is refl)

-- fewer digits write a number that more digits write
pub below_more : (number : Option ℕ) (digits most : ℕ) → digits ≤ most → IfSome number (λ n. n < 10 ^ digits)
    → IfSome number (λ n. n < 10 ^ most)
below_more None digits most within below = tt
below_more (Some n) digits most within below = let power : 10 ^ digits ≤ 10 ^ most = room 10 digits most (omega arith) within in omega arith
