-- A run that has come to its end.
use Rattle.std.proofs.Common.{ap}
use Rattle.run_program.specs.BoardOutcomes.{IsOutcome, Outcome}
use Rattle.run_program.specs.Ending.{ending}
use Rattle.joint_feed.specs.Stories.{Story}
use Rattle.run_loop.specs.declared.ending.Ending.TheVariants.{Stamp}
use Rattle.run_loop.specs.declared.finished.Finished.{Finished}
use Rattle.run_loop.specs.Finished.{IsFinished}
use Rattle.run_loop.specs.Running.{IsEndAfter, logged}

-- a run that has ended is the outcome of its story
pub has_ended : (s : Story) (run : Finished) → IsFinished Stamp s run → IsOutcome s (ending s run)
has_ended s run h = record {
  world = h.after.world;
  goes_on = h.after.goes_on;
  reached = h.after.reached;
  ends = h.after.ends;
  processor = h.processor;
  cycles = h.cycles;
  log = ap logged h.after.reached;
}

-- an outcome is of a run that has ended
pub outcome_ends : (s : Story) (run : Outcome) → IsOutcome s run → IsEndAfter Stamp s run.steps run.end
outcome_ends s run h = record { goes_on = h.goes_on; world = h.world; reached = h.reached; ends = h.ends }
