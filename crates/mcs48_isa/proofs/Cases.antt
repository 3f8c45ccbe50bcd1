-- Proofs by trying each number of a run.
use Rattle.std.proofs.Common.{◌≡◌, ℕ, suc, zero, ◌+◌, ◌<◌, ◌≤◌, arith, subst}
use native.Mathlib.Decide.{dec_lt}

-- the fact at each of k numbers from a on
abbrev pub Each : (ℕ → Type 0) → ℕ → ℕ → Type 0
Each P a zero = Unit {0}
Each P a (suc k) = P a × Each P (suc a) k

-- what was tried for each of some numbers is so of each of them
pub from_each : (P : ℕ → Type 0) (a k : ℕ) → Each P a k → (b : ℕ) → a ≤ b → b < a + k → P b
from_each P a zero each b l h = absurd (omega arith)
from_each P a (suc k) each b l h =
    elim (dec_lt a b) [
      | yes above ↦ from_each P (suc a) k each.1 b above (omega arith)
      | no here ↦ let e : a ≡ b = omega (arith, here) in subst P e each.0
    ]

-- the fact at each digit
abbrev pub Sixteen : (ℕ → Type 0) → Type 0
Sixteen P = P 0 × P 1 × P 2 × P 3 × P 4 × P 5 × P 6 × P 7 × P 8 × P 9 × P 10 × P 11 × P 12 × P 13 × P 14 × P 15

-- what was tried for each of sixteen digits is so of each digit
pub pick : (P : ℕ → Type 0) → Sixteen P → (k : ℕ) → k < 16 → P k
pick P each k h =
    from_each P 0 16
    ((
      each.0,
      (
        each.1,
        (
          each.2,
          (
            each.3,
            (
              each.4,
              (
                each.5,
                (
                  each.6,
                  (
                    each.7,
                    (each.8, (each.9, (each.10, (each.11, (each.12, (each.13, (each.14, (each.15, tt)))))))),
                  ),
                ),
              ),
            ),
          ),
        ),
      ),
    ))
    k (omega arith) (omega arith)

-- the fact at each pointer register, register or bit, and port of the expander
pub pointers : (P : ℕ → Type 0) → P 0 × P 1 → (i : ℕ) → i < 2 → P i
pointers P each i h = from_each P 0 2 (each.0, (each.1, tt)) i (omega arith) (omega arith)

-- what was tried for each of eight registers is so of each register
pub registers : (P : ℕ → Type 0) → P 0 × P 1 × P 2 × P 3 × P 4 × P 5 × P 6 × P 7 → (r : ℕ) → r < 8 → P r
registers P each r h =
    from_each P 0 8 (each.0, (each.1, (each.2, (each.3, (each.4, (each.5, (each.6, (each.7, tt)))))))) r (omega arith) (omega arith)

-- what was tried for each of the expander's four ports, 4 to 7, is so of each
pub ports : (P : ℕ → Type 0) → P 4 × P 5 × P 6 × P 7 → (p : ℕ) → (4 ≤ p) × (p < 8) → P p
ports P each p h = from_each P 4 4 (each.0, (each.1, (each.2, (each.3, tt)))) p h.0 (omega (arith, h.1))
