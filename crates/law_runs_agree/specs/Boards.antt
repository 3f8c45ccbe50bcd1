-- What a run on the board says, against the run of a layout.
use Rattle.std.specs.Prelude.{◌≡◌, ◌≤◌, ◌<◌, ℕ, ◌+◌, Bool, List, ◌++◌}
use Rattle.run_loop.specs.declared.ending.End.TheVariants.{Reached}
use Rattle.run_program.specs.BoardOutcomes.{IsOutcome, Outcome}
use Rattle.fw_compile.specs.Image.{image_of}
use Rattle.host_turn.specs.declared.stamped.Stamped.{Stamped}
use Rattle.joint_feed.specs.Stories.{Story, story}
use Rattle.key_file.specs.Accepted.{IsLawfulFor}
use Rattle.key_file.specs.Histories.{KeyHistory}
use Rattle.layout_reader.specs.Layouts.{IsKeyLayout, KeyLayout}
use Rattle.run_loop.specs.Running.{AreIn}
use Rattle.subsystem.specs.LayoutOutcomes.{lines_of}
use Rattle.subsystem.specs.LayoutOutcomes as layout
use Rattle.run_wires.specs.Trace.{trace_to}

-- a run on the board says the beginning of a layout's run: it ends at the end stamp or a cycle later; what it said
-- was said before it ended, and the layout's run said the same, with the ticks in place of the cycles, and then what
-- it said from there on; and its trace is the beginning of the trace of the layout's run
pub record SaysRun (s : Story) (board : Outcome) (run : layout.Outcome) : Type 0 where
  pub over : board.end ≡ Reached
  pub reaches : 4096 + s.stop ≤ board.cycles
  pub soon : board.cycles < 4096 + s.stop + 2
  pub steps : board.steps ≤ run.steps
  pub before : AreIn 0 board.cycles board.log
  pub rest : List Stamped
  pub after : AreIn board.cycles run.cycles rest
  pub log : run.log ≡ lines_of run.starts (board.log ++ rest)
  pub changes : Bool → List ℕ
  pub trace : (seen : Bool) → trace_to seen s run.steps ≡ trace_to seen s board.steps ++ changes seen

-- so it is with each layout's compiled image under a history that is lawful for it
abbrev pub BoardsSayRuns : Type 0
BoardsSayRuns = (of : KeyLayout) (history : KeyHistory) (board : Outcome) (run : layout.Outcome) → IsKeyLayout of
    → IsLawfulFor of history → IsOutcome (story (image_of of) history) board
    → layout.IsOutcome (story (image_of of) history) run → SaysRun (story (image_of of) history) board run
