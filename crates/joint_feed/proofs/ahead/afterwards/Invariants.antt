use Rattle.std.proofs.Common.{◌≡◌, ◌+◌, ◌-◌, ◌++◌, length, drop}
use Rattle.joint_feed.proofs.ahead.afterwards.Given as goal

-- those so far, and behind them what wasn't taken, are what was to come
abbrev pub invariant-loop-feed : goal.invariant-loop-feed
invariant-loop-feed g l = let all = g.T.Event.all (g.F.Feed.feeds l.fn.feed).history in record {
  history : (g.F.Feed.feeds l.feed).history ≡ (g.F.Feed.feeds l.fn.feed).history;
  others : g.T.Event.others (g.F.Feed.feeds l.feed) ≡ g.T.Event.others (g.F.Feed.feeds l.fn.feed);
  taken : g.T.Event.taken (g.F.Feed.feeds l.feed) + length l.first ≡ g.T.Event.taken (g.F.Feed.feeds l.fn.feed) + length l.next.items;
  so_far :
      l.next.items ++ drop (g.T.Event.taken (g.F.Feed.feeds l.feed)) all
      ≡ l.first ++ drop (g.T.Event.taken (g.F.Feed.feeds l.fn.feed)) all;
}

abbrev pub decreases-loop-feed : goal.decreases-loop-feed
decreases-loop-feed g l = g.row.N - length l.next.items
