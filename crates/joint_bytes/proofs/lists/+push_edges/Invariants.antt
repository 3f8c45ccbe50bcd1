use Rattle.joint_bytes.proofs.lists.+push_edges.Given as goal

abbrev pub decreases-push_edges : goal.decreases-push_edges
decreases-push_edges l = l.places
