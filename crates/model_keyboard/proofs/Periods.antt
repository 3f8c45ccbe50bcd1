-- A period is a byte: eight to fifteen, doubled at most three times.
use Rattle.std.proofs.Common.{◌≡◌, ℕ, zero, suc, ◌*◌, ◌%◌, ◌^◌, ◌<◌, ◌≤◌, arith}

-- eight to fifteen ticks, doubled at most three times, are at most 120
pub doubled : (a b : ℕ) → a ≤ 15 → b < 4 → (a * 2 ^ b % 4294967296 ≡ a * 2 ^ b) × (a * 2 ^ b ≤ 120)
doubled a zero h k = (omega arith, omega arith)
doubled a (suc zero) h k = (omega arith, omega arith)
doubled a (suc (suc zero)) h k = (omega arith, omega arith)
doubled a (suc (suc (suc zero))) h k = (omega arith, omega arith)
doubled a (suc (suc (suc (suc b)))) h k = absurd (omega arith)
