use Rattle.queue_bytes.proofs.loading.+have_ways.Given as goal

abbrev pub decreases-have_ways : goal.decreases-have_ways
decreases-have_ways l = l.count
