use Rattle.std.proofs.Common.{◌≡◌, length, ◌-◌, ◌≤◌}
use Rattle.io_edge.specs.Sink.{Takes}
use Rattle.io_edge.proofs.Puts.{Offering}
use Rattle.io_edge.proofs.saying.put_all.Given as goal

abbrev pub invariant-loop-done : goal.invariant-loop-done
invariant-loop-done g l = record {
  within : l.done ≤ length l.piece;
  steady : (g.K.Sink.shown l.out).faults ≡ (g.K.Sink.shown l.initial.out).faults;
  taken : Takes (g.K.Sink.shown l.initial.out).taken (g.K.Sink.shown l.out).taken l.piece l.done;
  offering : Offering (g.K.Sink.shown l.initial.out).in_memory (g.K.Sink.shown l.out).in_memory l.piece l.done;
}

abbrev pub decreases-loop-done : goal.decreases-loop-done
decreases-loop-done g l = length l.piece - l.done
