use Rattle.std.proofs.Common.{◌≡◌, length, ◌-◌, ◌≤◌}
use Rattle.io_edge.specs.Sink.{Takes}
use Rattle.io_edge.proofs.Puts.{Saying}
use Rattle.io_edge.proofs.saying.say.Given as goal

abbrev pub invariant-loop-start : goal.invariant-loop-start
invariant-loop-start g l = record {
  within : l.start ≤ length l.text;
  steady : (g.K.Sink.shown l.out).faults ≡ (g.K.Sink.shown l.initial.out).faults;
  taken : Takes (g.K.Sink.shown l.initial.out).taken (g.K.Sink.shown l.out).taken l.text l.start;
  saying : Saying (g.K.Sink.shown l.initial.out).in_memory (g.K.Sink.shown l.out).in_memory l.text l.start;
}

abbrev pub decreases-loop-start : goal.decreases-loop-start
decreases-loop-start g l = length l.text - l.start
