use Rattle.std.proofs.Common.{◌≡◌, ◌-◌, length, take}
use Rattle.key_file.proofs.reading.edges_of.Given as goal

-- the edges so far are those that were taken
abbrev pub invariant-loop-edge : goal.invariant-loop-edge
invariant-loop-edge l = record {
  history : l.feed.history ≡ l.fn.feed.history;
  host : l.feed.host ≡ l.fn.feed.host;
  edges : l.edges.items ≡ take l.feed.edges l.fn.feed.history.edges;
}

abbrev pub decreases-loop-edge : goal.decreases-loop-edge
decreases-loop-edge l = length l.fn.feed.history.edges - l.feed.edges
