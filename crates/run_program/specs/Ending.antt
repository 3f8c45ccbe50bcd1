-- The outcome of a run whose log went to a sink.
use Rattle.run_program.specs.BoardOutcomes.{Outcome}
use Rattle.joint_feed.specs.Stories.{Story}
use Rattle.run_loop.specs.declared.finished.Finished.{Finished}
use Rattle.run_loop.specs.Running.{log_at}

-- its log is what the run's steps said
abbrev pub ending : Story → Finished → Outcome
ending s run = record {
  log = log_at s run.joint.steps;
  end = run.end;
  mcu = run.joint.mcu;
  steps = run.joint.steps;
  cycles = run.joint.cycle;
}
