use Rattle.std.proofs.Common.{drop}
use Rattle.app_runs.specs.RunTexts.{start_lines}
use Rattle.run_loop.proofs.Texts.{IsSaidTo}
use Rattle.app_runs.proofs.streaming.put_starts.Given as goal

abbrev pub invariant-loop-number : goal.invariant-loop-number
invariant-loop-number g l =
    IsSaidTo (g.K.Sink.shown l.initial.out)
    (g.K.Sink.shown l.out)
    (start_lines 0 l.starts) (start_lines l.number (drop l.number l.starts))
