-- A run of any program on the board, from power-on to the end stamp or to a byte that begins no instruction.
use Rattle.std.specs.Prelude.{◌≡◌, ℕ, List, Some}
use Rattle.host_turn.specs.declared.stamped.Stamped.{Stamped}
use Rattle.joint_feed.specs.Stories.{Story, state_at}
use Rattle.joint_run.specs.Joint.{Beside, log_of}
use Rattle.joint_run.specs.Run.{World}
use Rattle.mcs48_core.specs.Cpu.{Cpu}
use Rattle.run_loop.specs.declared.ending.End.{End}
use Rattle.run_loop.specs.declared.ending.Ending.TheVariants.{Stamp}
use Rattle.run_loop.specs.Running.{EndsAt, GoesOnTo}

-- the outcome of a run: what was said, each item with its cycle; why it ended; the processor at its end; and how many
-- steps and cycles were made
pub record Outcome : Type 0 where
  pub log : List Stamped
  pub end : End
  pub mcu : Cpu
  pub steps : ℕ
  pub cycles : ℕ

-- the run goes on at each state before its last, and ends there: at the end stamp, or if it is stuck
pub record IsOutcome (s : Story) (run : Outcome) : Type 0 where
  pub world : World Beside
  pub goes_on : GoesOnTo Stamp s run.steps
  pub reached : state_at s run.steps ≡ Some world
  pub ends : EndsAt Stamp s run.steps world run.end
  pub processor : run.mcu ≡ world.cpu
  pub cycles : run.cycles ≡ world.cycle
  pub log : run.log ≡ log_of world.board
