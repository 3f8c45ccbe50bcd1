use Rattle.std.proofs.Common.{◌≡◌, ◌==◌, ℕ, ◌<◌, false}
use Rattle.pc_tables.specs.Keys.{scan_at}
use Rattle.pc_tables.proofs.key.key_scanned.Given as goal

abbrev pub invariant-loop-number : goal.invariant-loop-number
invariant-loop-number l = (k : ℕ) → k < l.number → (scan_at k == l.scan) ≡ false
