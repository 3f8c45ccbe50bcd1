use Rattle.std.proofs.Common.{◌≡◌, ℕ, ◌<◌, false}
use Rattle.std.specs.Str.{bytes_eq}
use Rattle.pc_tables.specs.Keys.{name_at}
use Rattle.pc_tables.proofs.key.key_spelled.Given as goal

abbrev pub invariant-loop-number : goal.invariant-loop-number
invariant-loop-number l = (k : ℕ) → k < l.number → bytes_eq (name_at k) l.name ≡ false
