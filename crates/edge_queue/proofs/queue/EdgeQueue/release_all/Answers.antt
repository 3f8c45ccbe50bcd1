use Rattle.std.proofs.Common.{◌≡◌, ◌∙◌, arith}
use Rattle.edge_queue.specs.Queue.{queue_of}
use Rattle.edge_queue.proofs.Room.{all_done}
use Rattle.edge_queue.proofs.queue.EdgeQueue.release_all.Goals as goal

pub returns : goal.returns
returns c =
    let most = c.places.invariant.most in
    let past = c.places-test.false in
    let done : c.places.place ≡ 96 = omega (arith, most, past) in
    record { after = c.places.invariant.so_far ∙ all_done c.args.stamp c.places.place (queue_of c.args.self.now) done }
