use Rattle.std.proofs.Common.{arith}
use Rattle.edge_queue.proofs.Entering.{removes}
use Rattle.edge_queue.proofs.queue.EdgeQueue.remove_first.Goals as goal

pub returns : goal.returns
returns c =
    let q = c.args.self.now in
    let long = c.waiting-left.ensures.long in
    record {
      after = removes c.args.debounce q.edges q.count q.down q.ready c.args.now c.time_of.result c.waiting-left.result c.rotate_left.new.self _
          c.requires.some (omega (arith, long)) c.waiting-left.ensures.count c.rotate_left.ensures.after c.time_of.ensures.time;
    }
