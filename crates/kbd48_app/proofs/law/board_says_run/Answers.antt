use Rattle.kbd48_app.proofs.BoardSaysRun as law
use Rattle.kbd48_app.proofs.law.board_says_run.Goals as goal

pub returns : goal.returns
returns c = record {
  report = law.board_says_run c.boards_say_runs.ensures.report;
  trace = law.board_traces_run c.boards_say_runs.ensures.report;
}
