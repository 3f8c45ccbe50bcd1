use Rattle.joint_bytes.proofs.lists.+have_places.Given as goal

abbrev pub decreases-have_places : goal.decreases-have_places
decreases-have_places l = l.count
