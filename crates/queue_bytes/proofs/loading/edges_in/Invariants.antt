use Rattle.std.proofs.Common.{◌≡◌, ◌≤◌, ◌-◌, length, map, take}
use Rattle.joint_bytes.specs.Lists.{edges_in}
use Rattle.queue_bytes.specs.Saved.{pushed_of}
use Rattle.queue_bytes.proofs.loading.edges_in.Given as goal

abbrev pub invariant-edges : goal.invariant-edges
invariant-edges l = record {
  most : l.done ≤ l.count;
  long : length l.edges ≡ 160;
  so_far : take l.done l.edges ≡ map pushed_of (edges_in l.done l.bytes);
}

abbrev pub decreases-edges : goal.decreases-edges
decreases-edges l = l.count - l.done
