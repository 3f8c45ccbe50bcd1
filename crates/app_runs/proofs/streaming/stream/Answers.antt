use Rattle.app_words.specs.declared.words.RunCommand.TheVariants.{Log}
use Rattle.key_file.specs.KeyFile.{history_of}
use Rattle.app_answers.proofs.AreSpoken.{keys_refused}
use Rattle.app_runs.specs.RunOfText.{MaySayOfRun}
use Rattle.app_runs.proofs.RunsAreSaid.{streamed}
use Rattle.app_runs.proofs.streaming.stream.Goals as goal

pub returns-in_err-feed-clause-says : goal.returns-in_err-feed-clause-says
returns-in_err-feed-clause-says g c =
    keys_refused (MaySayOfRun (Log c.args.ticks c.args.steps) c.args.layout.now _) (history_of c.args.layout.now c.args.text.now) _ _ c.from_residual.result
    (g.K.Sink.shown c.args.out.now)
    c.in_err-feed.ensures.history c.from_residual.ensures.1

pub returns-in-Ok-clause-says : goal.returns-in-Ok-clause-says
returns-in-Ok-clause-says g c =
    streamed c.args.ticks c.args.steps c.args.layout.now c.args.text.now c.in_ok-feed.feed.history
    c.in_ok-feed.ensures.history c.runs_are_expected.ensures.expected
    c.new.ensures.layout c.in_ok-feed.ensures.accepted c.in-Ok.engine c.in-Ok.ensures.engine c.put_run.result
    (g.K.Sink.shown c.args.out.now)
    (g.K.Sink.shown c.put_run.new.out) _ _
    c.put_run.ensures.said c.put_run.ensures.broken
