-- A run of the whole subsystem, from power-on to the first tick start at or after the end stamp.
use Rattle.std.specs.Prelude.{◌≡◌, ℕ, suc, ◌-◌, true, List, length, map, Some}
use Rattle.board_terms.specs.Cadence.{IsLast, listed, tick_of}
use Rattle.host_turn.specs.declared.stamped.Stamped.{Stamped}
use Rattle.joint_feed.specs.Stories.{Story, state_at, starts_tick}
use Rattle.joint_run.specs.Joint.{Beside, log_of}
use Rattle.joint_run.specs.Run.{World}
use Rattle.model_link.specs.declared.line.LogLine.{LogLine}
use Rattle.mcs48_core.specs.Cpu.{Cpu}
use Rattle.run_loop.specs.Starts.{starts_among}
use Rattle.subsystem.specs.declared.outcome.Run.{Run}

-- an item of the log with its tick
abbrev pub line_of : List ℕ → Stamped → LogLine
line_of starts s = record { tick = tick_of (listed starts) (length starts - 1) s.cycle; item = s.item }

abbrev pub lines_of : List ℕ → List Stamped → List LogLine
lines_of starts log = map (line_of starts) log

-- the outcome of a run: the log, the stamps of the tick starts, the processor at the last of them, and how many steps
-- and cycles were made
pub record Outcome : Type 0 where
  pub log : List LogLine
  pub starts : List ℕ
  pub end : Cpu
  pub steps : ℕ
  pub cycles : ℕ

-- the run ends before the step that begins at the first tick start at or after the end stamp. `starts` are the stamps
-- of all tick starts up to it, `end` is the processor there, `steps` and `cycles` are counted from power-on, and the
-- log is what was said, each item with its tick
pub record IsOutcome (s : Story) (run : Outcome) : Type 0 where
  pub world : World Beside
  pub reached : state_at s run.steps ≡ Some world
  pub at : starts_tick s world ≡ true
  pub starts : run.starts ≡ starts_among s (suc run.steps)
  pub last : IsLast (listed run.starts) s.stop (length run.starts - 1)
  pub processor : run.end ≡ world.cpu
  pub cycles : run.cycles ≡ world.cycle
  pub log : run.log ≡ lines_of run.starts (log_of world.board)

-- the outcome of a run whose log is kept as a list
abbrev pub outcome : Run → Outcome
outcome run = record {
  log = run.log.items;
  starts = run.starts.items;
  end = run.end;
  steps = run.steps;
  cycles = run.cycles;
}

abbrev pub IsRun : Story → Run → Type 0
IsRun s run = IsOutcome s (outcome run)
