use Rattle.std.proofs.lemmas.Result.{IfOk-weaker, on_err_weaker}
use Rattle.io_edge.proofs.Pieces.{none_said}
use Rattle.run_loop.specs.declared.ending.Ending.TheVariants.{Stamp}
use Rattle.run_program.proofs.BrokenOff.{log_broken_off}
use Rattle.run_program.proofs.Ends.{has_ended}
use Rattle.run_program.proofs.ReportedByStamp.{said_to}
use Rattle.run_program.proofs.board.run_to.Goals as goal

pub make-requires-clause-reported : goal.make-requires-clause-reported
make-requires-clause-reported g c = none_said (g.K.Sink.shown c.args.out.now)

pub returns-clause-run : goal.returns-clause-run
returns-clause-run g c = IfOk-weaker c.make.result _ _ (has_ended c.args.run) c.make.ensures.finished

pub returns-clause-said : goal.returns-clause-said
returns-clause-said g c =
    IfOk-weaker c.make.result _ _
    (λ made. said_to Stamp c.args.run made.joint.steps (g.K.Sink.shown c.args.out.now) (g.K.Sink.shown c.make.new.out))
    c.make.ensures.reported

pub returns-clause-broken : goal.returns-clause-broken
returns-clause-broken g c =
    on_err_weaker c.make.result
    (log_broken_off c.args.run (g.K.Sink.shown c.args.out.now) (g.K.Sink.shown c.make.new.out) _ _) c.make.ensures.broken
