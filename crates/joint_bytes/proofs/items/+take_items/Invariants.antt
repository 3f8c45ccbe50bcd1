use Rattle.joint_bytes.proofs.items.+take_items.Given as goal

abbrev pub decreases-take_items : goal.decreases-take_items
decreases-take_items l = l.count
