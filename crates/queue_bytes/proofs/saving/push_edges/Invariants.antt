use Rattle.std.proofs.Common.{◌≡◌, ◌<◌, ◌+◌, ◌-◌, ◌*◌, ◌^◌, ◌++◌, All, drop, map, take}
use Rattle.arrayvec.specs.ArrayVec.{array_vec_len}
use Rattle.edge_queue.specs.Calls.{edge_of}
use Rattle.joint_bytes.specs.Lists.{edges_bytes}
use Rattle.queue_bytes.proofs.saving.push_edges.Given as goal

abbrev pub invariant-loop-edge : goal.invariant-loop-edge
invariant-loop-edge l = record {
  count : array_vec_len l.bytes ≡ 29 + 10 * l.edge-index;
  stamps : All (λ e. e.stamp < 2 ^ 64) (take l.edge-index l.edges);
  so_far :
      l.bytes.items ++ edges_bytes (160 - l.edge-index) (map edge_of (drop l.edge-index l.edges))
      ≡ l.fn.bytes.items ++ edges_bytes 160 (map edge_of l.edges);
}
