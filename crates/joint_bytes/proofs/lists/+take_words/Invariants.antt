use Rattle.joint_bytes.proofs.lists.+take_words.Given as goal

abbrev pub decreases-take_words : goal.decreases-take_words
decreases-take_words l = l.count
