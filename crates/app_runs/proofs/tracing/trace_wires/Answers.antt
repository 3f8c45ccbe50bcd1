use Rattle.io_edge.specs.declared.sink.SinkFault.TheVariants.{Failed}
use Rattle.app_words.specs.declared.words.RunCommand.TheVariants.{Trace}
use Rattle.key_file.specs.KeyFile.{history_of}
use Rattle.app_answers.proofs.AreSpoken.{keys_refused}
use Rattle.app_runs.specs.RunOfText.{MaySayOfRun}
use Rattle.app_runs.proofs.RunsAreSaid.{trace_stopped, traced}
use Rattle.app_runs.proofs.tracing.trace_wires.Goals as goal

pub returns-in_err-feed-clause-says : goal.returns-in_err-feed-clause-says
returns-in_err-feed-clause-says g c = λ probes.
    keys_refused (MaySayOfRun (Trace c.args.seen) c.args.layout.now probes) (history_of c.args.layout.now c.args.text.now) _ probes c.from_residual.result
    (g.K.Sink.shown c.args.out.now)
    c.in_err-feed.ensures.history c.from_residual.ensures.1

pub returns-in-Err-Write-clause-says : goal.returns-in-Err-Write-clause-says
returns-in-Err-Write-clause-says g c = λ probes.
    trace_stopped c.args.seen c.args.layout.now c.args.text.now c.in_ok-feed.feed.history c.in_ok-feed.ensures.history probes
    c.runs_are_expected.ensures.expected
    c.runs_come_to_outcomes.ensures.outcomes
    c.trace.ensures.heard c.trace.ensures.layout c.in_ok-feed.ensures.accepted
    (g.K.Sink.shown c.args.out.now)
    (g.K.Sink.shown c.trace.new.out) Failed
    (c.in-Err-Write.ensures.broken (cc (c.in-Err-Write.field-0-is)))

pub returns-in-Ok-clause-says : goal.returns-in-Ok-clause-says
returns-in-Ok-clause-says g c = λ probes.
    traced c.args.seen c.args.layout.now c.args.text.now c.in_ok-feed.feed.history c.in_ok-feed.ensures.history probes
    c.runs_are_expected.ensures.expected
    c.runs_come_to_outcomes.ensures.outcomes
    c.trace.ensures.heard c.trace.ensures.layout c.in_ok-feed.ensures.accepted
    (g.K.Sink.shown c.args.out.now)
    (g.K.Sink.shown c.trace.new.out) _
    c.in-Ok.ensures.said
