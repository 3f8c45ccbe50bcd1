use Rattle.std.proofs.Common.{◌≡◌, ℕ, ◌<◌, true}
use Rattle.cycle_cert.specs.Falling.{falls_at}
use Rattle.cycle_cert.proofs.falling.Passage.falls_on_one.Given as goal

-- it falls at each value so far
abbrev pub invariant-loop-value : goal.invariant-loop-value
invariant-loop-value l = (v : ℕ) → v < l.value → falls_at l.self v v ≡ true
