use Rattle.std.proofs.Common.{take, drop, ap, ◌∙◌, arith}
use Rattle.joint_feed.proofs.Afterwards.{next_within, rest_after, tail_whole}
use Rattle.joint_feed.proofs.ahead.move_up.Goals as goal

pub overflow_add-over : goal.overflow_add-over
overflow_add-over g c =
    let all = g.T.Event.all (g.F.Feed.feeds c.args.feed.now).history in
    let within = next_within g.row.N c.args.over.now c.args.count all c.args.due.now.items c.requires.next c.requires.due c.requires.over in
    let most = c.requires.few in
    omega (arith, within, most)

pub returns-then-count-gt0-clause-next : goal.returns-then-count-gt0-clause-next
returns-then-count-gt0-clause-next g c =
    let fed = g.F.Feed.feeds c.args.feed.now in
    let left = tail_whole c.as_slice.result.now c.args.count ∙ ap (drop c.args.count) c.as_slice.ensures.value in
    rw c.afterwards.ensures.events
    (rw left
    (ap (take g.row.N)
    (rest_after g.row.N c.args.over.now c.args.count (g.T.Event.taken fed) (g.T.Event.all fed.history) c.args.due.now.items
    c.requires.next c.requires.taken c.requires.due)))
