use Rattle.app_words.specs.declared.words.RunCommand.TheVariants.{Log, Expect, Trace}
use Rattle.app_runs.proofs.RunsAreSaid.{said_by_run, reported_unsaid}
use Rattle.app_runs.proofs.running.say_run.Goals as goal

pub returns-in-Expect-clause-says : goal.returns-in-Expect-clause-says
returns-in-Expect-clause-says g c =
    reported_unsaid c.args.command Expect c.args.layout.now c.args.text.now _ _ c.expected.result c.to_say.result
    (g.K.Sink.shown c.args.out.now)
    c.in-Expect.is c.to_say.ensures c.expected.ensures.says

pub returns-in-Log-clause-says : goal.returns-in-Log-clause-says
returns-in-Log-clause-says g c =
    said_by_run c.args.command (Log c.in-Log.ticks c.in-Log.steps) c.args.layout.now c.args.text.now _ _ c.stream.result
    (g.K.Sink.shown c.args.out.now)
    (g.K.Sink.shown c.stream.new.out)
    c.in-Log.is c.stream.ensures.says

pub returns-in-Trace-clause-says : goal.returns-in-Trace-clause-says
returns-in-Trace-clause-says g c =
    said_by_run c.args.command (Trace c.in-Trace.seen) c.args.layout.now c.args.text.now _ _ c.trace_wires.result
    (g.K.Sink.shown c.args.out.now)
    (g.K.Sink.shown c.trace_wires.new.out)
    c.in-Trace.is (c.trace_wires.ensures.says _)
