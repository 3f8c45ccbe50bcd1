-- The outcome of a run whose log wasn't kept.
use Rattle.joint_feed.specs.Stories.{Story}
use Rattle.run_loop.specs.Running.{log_at}
use Rattle.subsystem.specs.declared.ended.Ended.{Ended}
use Rattle.subsystem.specs.LayoutOutcomes.{Outcome, lines_of}

-- its log is what the run's steps said, each item with its tick
abbrev pub ending : Story → Ended → Outcome
ending s ended = record {
  log = lines_of ended.starts.items (log_at s ended.steps);
  starts = ended.starts.items;
  end = ended.end;
  steps = ended.steps;
  cycles = ended.cycles;
}
