use Rattle.std.proofs.Common.{◌∙◌}
use Rattle.app_runs.proofs.RunPrintsExpected.{printed}
use Rattle.key_file.proofs.Lawful.{lawful_for}
use Rattle.app_runs.proofs.reporting.report.Goals as goal

pub returns-clause-text : goal.returns-clause-text
returns-clause-text g c =
    let layout = c.args.layout.now in
    let history = c.args.history.now in
    let are = c.in_ok-starts.ensures.starts in
    printed layout history _ c.expected_text.result _ _ are
    (c.runs_are_expected.ensures.expected layout history are.run c.in_ok-starts.ensures.layout (lawful_for c.requires.accepted) are.is)
    (c.expected_text.ensures are.run (c.deref.ensures.value ∙ are.same))
