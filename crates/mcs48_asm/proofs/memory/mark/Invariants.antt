use Rattle.std.proofs.Common.{◌≡◌, ℕ, ◌≤◌, ◌<◌, true, false, slice_index_or}
use Rattle.mcs48_asm.proofs.memory.mark.Given as goal

abbrev pub invariant-loop-place : goal.invariant-loop-place
invariant-loop-place l = record {
  inside : (k : ℕ) → l.start ≤ k → k < l.place → slice_index_or l.filled k false ≡ true;
  before : (k : ℕ) → k < l.start → slice_index_or l.filled k false ≡ slice_index_or l.initial.filled k false;
  afterwards : (k : ℕ) → l.place ≤ k → slice_index_or l.filled k false ≡ slice_index_or l.initial.filled k false;
}
