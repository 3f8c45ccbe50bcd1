use Rattle.std.proofs.Common.{◌≡◌, ℕ, ◌+◌, ◌≤◌, ◌<◌, slice_index}
use Rattle.mcs48_asm.proofs.memory.put.Given as goal

abbrev pub invariant-loop-offset : goal.invariant-loop-offset
invariant-loop-offset l = record {
  inside : (k : ℕ) → k < l.offset → slice_index l.memory (l.start + k) ≡ slice_index l.bytes k;
  before : (k : ℕ) → k < l.start → slice_index l.memory k ≡ slice_index l.initial.memory k;
  afterwards : (k : ℕ) → l.start + l.offset ≤ k → slice_index l.memory k ≡ slice_index l.initial.memory k;
}
