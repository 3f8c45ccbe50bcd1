use Rattle.std.proofs.Common.{◌-◌, ◌≡◌, ◌≤◌}
use Rattle.edge_queue.specs.Queue.{queue_of, released_to}
use Rattle.edge_queue.proofs.queue.EdgeQueue.release_all.Given as goal

abbrev pub invariant-places : goal.invariant-places
invariant-places l = record {
  most : l.place ≤ 96;
  stamp : l.stamp ≡ l.fn.stamp;
  so_far : queue_of l.self ≡ released_to l.place l.fn.stamp (queue_of l.fn.self);
}

abbrev pub decreases-places : goal.decreases-places
decreases-places l = 96 - l.place
