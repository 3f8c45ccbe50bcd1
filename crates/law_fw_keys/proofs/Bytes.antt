-- Tests of bytes, by trying each.
use Rattle.std.proofs.Common.{◌≡◌, ◌<◌, ℕ, ◌+◌, ◌%◌, ◌==◌, ◌&&◌, bit_or, refl}
use Rattle.bits.proofs.Every.{pair_tests, tests_by}

-- an or of two bytes is zero exactly if both are
pub or_none : (a b : ℕ) → a < 256 → b < 256 → (bit_or a b == 0) ≡ ((a == 0) && (b == 0))
or_none = pair_tests 256 256 (λ a b. bit_or a b == 0) (λ a b. (a == 0) && (b == 0)) refl

-- twice a byte, within eight bits, is zero exactly if the byte's low seven bits are
pub twice : (c : ℕ) → c < 256 → ((c + c) % 256 == 0) ≡ (c % 128 == 0)
twice = tests_by 256 (λ c. (c + c) % 256 == 0) (λ c. c % 128 == 0) refl
