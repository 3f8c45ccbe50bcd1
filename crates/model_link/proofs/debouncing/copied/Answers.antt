use Rattle.model_link.proofs.Taken.{next_copied}
use Rattle.model_link.proofs.debouncing.copied.Goals as goal

pub loop-place-preserved : goal.loop-place-preserved
loop-place-preserved c =
    next_copied c.args.edges.now c.loop-place.place-index c.loop-place-item.result c.loop-place.copy.items c.push.new.self.items
    c.loop-place-test.true c.loop-place-item.is c.loop-place.invariant c.in_ok-push.ensures.items
