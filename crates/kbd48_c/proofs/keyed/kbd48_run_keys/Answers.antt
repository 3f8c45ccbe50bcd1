use Rattle.std.proofs.Common.{rules}
use Rattle.edge_queue.specs.Queue.{queue_of}
use Rattle.kbd48_c.specs.Queueing.{HasGoneKeyed}
use Rattle.kbd48_c.proofs.Through.{through_call}
use Rattle.kbd48_c.proofs.keyed.kbd48_run_keys.Goals as goal

pub returns-in-Some-clause-gone : goal.returns-in-Some-clause-gone
returns-in-Some-clause-gone c =
    through_call (HasGoneKeyed c.args.cycles c.args.watched c.go_keyed-status.new.passed c.args.spot.now c.go_keyed-status.new.spot
    (queue_of c.args.queue.now) (queue_of c.go_keyed-status.new.queue))
    c.args.handle.now.keyboard
    c.holding.result.keyboard c.go_keyed-status.result c.deref_mut.result.now c.in-Some.keyboard.value c.go_keyed-status.new.keyboard
    (search rules)
    c.deref_mut.ensures.value c.in-Some.ensures.taken c.holding.ensures c.go_keyed-status.ensures.gone
