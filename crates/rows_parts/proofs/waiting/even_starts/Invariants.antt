use Rattle.std.proofs.Common.{◌≡◌, ℕ, ◌*◌, ◌<◌, length, get_or}
use Rattle.rows_parts.proofs.waiting.even_starts.Given as goal

abbrev pub invariant-loop-n : goal.invariant-loop-n
invariant-loop-n l = record {
  count : length l.starts.items ≡ l.n;
  each : (k : ℕ) → k < l.n → get_or l.starts.items k 0 ≡ 2048 * k;
}
