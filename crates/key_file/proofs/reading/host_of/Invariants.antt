use Rattle.std.proofs.Common.{◌≡◌, ◌-◌, length, take}
use Rattle.key_file.proofs.reading.host_of.Given as goal

-- the events so far are those that were taken
abbrev pub invariant-loop-event : goal.invariant-loop-event
invariant-loop-event l = record {
  history : l.feed.history ≡ l.fn.feed.history;
  events : l.events.items ≡ take l.feed.host l.fn.feed.history.host;
}

abbrev pub decreases-loop-event : goal.decreases-loop-event
decreases-loop-event l = length l.fn.feed.history.host - l.feed.host
