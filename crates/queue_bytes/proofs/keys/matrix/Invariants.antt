use Rattle.std.proofs.Common.{◌≡◌, ◌≤◌, ◌-◌, ◌++◌, drop, take}
use Rattle.board_terms.specs.Matrix.{all_up}
use Rattle.queue_bytes.proofs.keys.matrix.Given as goal

abbrev pub invariant-places : goal.invariant-places
invariant-places l = record {
  most : l.number ≤ 96;
  so_far : l.matrix ≡ take l.number l.queue.down ++ drop l.number all_up;
}

abbrev pub decreases-places : goal.decreases-places
decreases-places l = 96 - l.number
