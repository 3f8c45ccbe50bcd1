-- Facts of small numbers, by trying each.
use Rattle.std.proofs.Common.{◌≡◌, ◌<◌, ℕ, suc, zero, Bool, true, false, not, ◌&&◌, ◌==◌, leb, refl, arith}
use Rattle.std.proofs.lemmas.Bool.Decides.{nat_tests}

-- whether the test holds of each number below the bound
abbrev pub every_below : (ℕ → Bool) → ℕ → Bool
every_below p zero = true
every_below p (suc k) = p k && every_below p k

-- what two tests that hold together say of either, and of both
pub and-left : (a b : Bool) → (a && b) ≡ true → a ≡ true
and-left true b h = refl
and-left false b h = h

-- if an and is true, its second part is
pub and-right : (a b : Bool) → (a && b) ≡ true → b ≡ true
and-right true b h = h
and-right false b h = absurd cc

-- if an and is true, both parts are
pub both : (a b : Bool) → (a && b) ≡ true → (a ≡ true) × (b ≡ true)
both a b h = (and-left a b h, and-right a b h)

-- what holds of each number below the bound holds of this one
pub at_each : (p : ℕ → Bool) (k : ℕ) → every_below p k ≡ true → (b : ℕ) → b < k → p b ≡ true
at_each p zero e b l = absurd (omega (arith, l))
at_each p (suc k) e b l =
    let t = both (p k) (every_below p k) e in
    elim (leb k b) as (λ c. leb k b ≡ c → p b ≡ true) [
      | true ↦ λ g. let s : b ≡ k = grind (arith, nat_tests, g, l) in rw s t.0
      | false ↦ λ g. let s : b < k = grind (arith, nat_tests, g) in at_each p k t.1 b s
    ] refl

-- numbers that the test finds equal
pub same_of : (a b : ℕ) → (a == b) ≡ true → a ≡ b
same_of a b h = grind (arith, nat_tests, h)

-- equal numbers, for a byte or for what is below a bound
pub by_byte : (f g : ℕ → ℕ) → every_below (λ b. f b == g b) 256 ≡ true → (b : ℕ) → b < 256 → f b ≡ g b
by_byte f g e b l = same_of (f b) (g b) (at_each (λ b. f b == g b) 256 e b l)

-- functions found to agree on each number below a bound agree on each such number
pub by_below : (k : ℕ) (f g : ℕ → ℕ) → every_below (λ b. f b == g b) k ≡ true → (b : ℕ) → b < k → f b ≡ g b
by_below k f g e b l = same_of (f b) (g b) (at_each (λ b. f b == g b) k e b l)

-- whether two tests agree
abbrev pub same : Bool → Bool → Bool
same true b = b
same false b = not b

-- tests that are found to agree are equal
pub same_is : (a b : Bool) → same a b ≡ true → a ≡ b
same_is true true h = refl
same_is true false h = absurd cc
same_is false true h = absurd cc
same_is false false h = refl

-- tests found to agree on each number below a bound agree on each such number
pub tests_by : (k : ℕ) (p q : ℕ → Bool) → every_below (λ b. same (p b) (q b)) k ≡ true → (b : ℕ) → b < k → p b ≡ q b
tests_by k p q e b l = same_is (p b) (q b) (at_each (λ b. same (p b) (q b)) k e b l)

-- and of pairs
pub pair_tests : (j k : ℕ) (p q : ℕ → ℕ → Bool)
    → every_below (λ a. every_below (λ b. same (p a b) (q a b)) k) j ≡ true → (a b : ℕ) → a < j → b < k
    → p a b ≡ q a b
pair_tests j k p q e a b l m =
    same_is (p a b) (q a b)
    (at_each (λ b. same (p a b) (q a b)) k (at_each (λ a. every_below (λ b. same (p a b) (q a b)) k) j e a l) b m)

-- functions found to agree on each pair of numbers below two bounds agree on each such pair
pub pair_by : (j k : ℕ) (f g : ℕ → ℕ → ℕ)
    → every_below (λ a. every_below (λ b. f a b == g a b) k) j ≡ true → (a b : ℕ) → a < j → b < k → f a b ≡ g a b
pair_by j k f g e a b l m =
    same_of (f a b) (g a b)
    (at_each (λ b. f a b == g a b) k (at_each (λ a. every_below (λ b. f a b == g a b) k) j e a l) b m)
