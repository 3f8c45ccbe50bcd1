use Rattle.std.proofs.Common.{◌<◌, ◌∙◌, sym, arith, length, take}
use Rattle.edge_queue.specs.Queue.{edge_at}
use Rattle.edge_queue.proofs.Entering.{enters, room_left}
use Rattle.edge_queue.proofs.queue.EdgeQueue.enter.Goals as goal

pub returns-clause-after : goal.returns-clause-after
returns-clause-after c =
    let q = c.args.self.now in
    let n = c.waiting-last.result in
    let long = c.waiting-last.ensures.long in
    let count = c.waiting-last.ensures.count in
    let room = sym c.is_full.ensures ∙ c.if-is_full.false in
    let least = room_left c.args.down (length (take q.count q.edges)) room in
    let l : n < 160 = omega (arith, count, least) in
    enters q.edges q.count n q.down q.ready (edge_at c.args.stamp c.args.place c.args.down)
    (sym c.is_repeated.ensures ∙ c.if-is_repeated.false) room (c.waiting-last.ensures.few l) (omega (arith, l, long))
