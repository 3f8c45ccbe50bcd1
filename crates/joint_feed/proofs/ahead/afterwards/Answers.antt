use Rattle.std.proofs.Common.{◌≡◌, ◌≤◌, length, take, drop, Some, None, ap, subst, ◌∙◌, arith}
use Rattle.std.specs.List.{slice_get}
use Rattle.joint_feed.proofs.Afterwards.{one_more_after, none_afterwards, take_all_of, take_full}
use Rattle.joint_feed.proofs.ahead.afterwards.Goals as goal

pub loop-feed-preserved : goal.loop-feed-preserved
loop-feed-preserved g c =
    let inv = c.loop-feed.invariant in
    let h = c.in-Some.ensures in
    let all = g.T.Event.all (g.F.Feed.feeds c.args.feed.now).history in
    let before = g.T.Event.taken (g.F.Feed.feeds c.loop-feed.feed) in
    let there = subst (λ k. Some c.in-Some.event ≡ slice_get (g.T.Event.all k) before) inv.history h.next in
    record {
      history = h.history ∙ inv.history;
      others = h.others ∙ inv.others;
      taken = let a = h.taken in let b = c.push.ensures.len in let d = inv.taken in omega (arith, a, b, d);
      so_far =
          rw c.push.ensures.items
          (rw h.taken (one_more_after c.loop-feed.next.items all before c.in-Some.event there ∙ inv.so_far));
    }

pub returns-in_default-clause-events : goal.returns-in_default-clause-events
returns-in_default-clause-events g c =
    let inv = c.loop-feed.invariant in
    let all = g.T.Event.all (g.F.Feed.feeds c.args.feed.now).history in
    let before = g.T.Event.taken (g.F.Feed.feeds c.loop-feed.feed) in
    let none = subst (λ k. None ≡ slice_get (g.T.Event.all k) before) inv.history c.in_default.ensures.next in
    let room : length c.loop-feed.next.items ≤ g.row.N = let l = c.len.ensures in omega (arith, l) in
    take_all_of g.row.N c.loop-feed.next.items (drop before all) (none_afterwards all before none) room
    ∙ ap (take g.row.N) inv.so_far

pub returns-clause-events : goal.returns-clause-events
returns-clause-events g c =
    let inv = c.loop-feed.invariant in
    let all = g.T.Event.all (g.F.Feed.feeds c.args.feed.now).history in
    let full : length c.loop-feed.next.items ≡ g.row.N = let l = c.len.ensures in omega (arith, l) in
    take_full g.row.N c.loop-feed.next.items (drop (g.T.Event.taken (g.F.Feed.feeds c.loop-feed.feed)) all) full
    ∙ ap (take g.row.N) inv.so_far
