use Rattle.std.proofs.Common.{◌*◌, refl, ◌∙◌, arith}
use Rattle.std.proofs.lemmas.List.{length-set}
use Rattle.joint_bytes.proofs.Pushed.{later_is}
use Rattle.queue_bytes.proofs.Places.{edge_taken}
use Rattle.queue_bytes.proofs.loading.edges_in.Goals as goal

pub edges-preserved : goal.edges-preserved
edges-preserved c =
    let inv = c.edges.invariant in
    let below = c.edges-test.true in
    let few = c.requires.few in
    let long = inv.long in
    record {
      most = omega (arith, below);
      long = length-set c.edges.edges c.edges.done c.edge_in.result ∙ inv.long;
      so_far = edge_taken c.edges.edges _ c.edges.done c.edge_in.result _ c.args.bytes.now (omega (arith, below, few, long))
          c.edge_in.ensures (later_is (10 * c.edges.done) c.args.bytes.now) refl inv.so_far;
    }
