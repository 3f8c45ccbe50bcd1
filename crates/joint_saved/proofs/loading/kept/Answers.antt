use Rattle.joint_saved.proofs.Understood.{are_kept}
use Rattle.joint_saved.proofs.loading.kept.Goals as goal

pub returns : goal.returns
returns c =
    are_kept c.args.bytes.now
    (record {
      joint = c.args.joint;
      edges = c.edges.result;
      items = c.items.result;
      lost = c.number_at.result;
      rises = c.number_at-2.result;
    })
    c.requires.joint c.edges.ensures c.items.ensures c.number_at.ensures c.number_at-2.ensures
