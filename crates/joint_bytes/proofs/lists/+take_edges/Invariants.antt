use Rattle.joint_bytes.proofs.lists.+take_edges.Given as goal

abbrev pub decreases-take_edges : goal.decreases-take_edges
decreases-take_edges l = l.count
