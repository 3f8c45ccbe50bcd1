use Rattle.std.proofs.Common.{drop}
use Rattle.std.specs.Prelude.{flat_map}
use Rattle.run_loop.proofs.Texts.{IsSaidTo}
use Rattle.run_loop.proofs.putting.put_items.Given as goal

abbrev pub invariant-loop-stamped : goal.invariant-loop-stamped
invariant-loop-stamped g l =
    let line = g.L.ItemLine.line_of l.lines in
    IsSaidTo (g.K.Sink.shown l.fn.out) (g.K.Sink.shown l.out) (flat_map line l.items) (flat_map line (drop l.stamped-index l.items))
