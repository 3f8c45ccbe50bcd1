use Rattle.std.proofs.Common.{◌≡◌, ◌≤◌, ◌-◌}
use Rattle.model_controller.specs.ByteTime.{quietly}
use Rattle.model_link.proofs.running.Running.run_on.Given as goal

abbrev pub invariant-cycles : goal.invariant-cycles
invariant-cycles l = record {
  from : l.from ≤ l.now;
  to : l.now ≤ l.to;
  runs : l.self ≡ quietly l.events (l.now - l.from) l.from l.fn.self;
}

abbrev pub decreases-cycles : goal.decreases-cycles
decreases-cycles l = l.to - l.now
