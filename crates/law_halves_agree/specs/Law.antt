-- The keyboard alone and the controller alone, joined by the loop, are the joint run.
use Rattle.std.specs.Prelude.{◌≡◌, ℕ, Bool, List, Some, None}
use Rattle.std.specs.Option.{option_map}
use Rattle.std.specs.declared.option.Option.{Option}
use Rattle.board_terms.specs.declared.event.Edge.{Edge}
use Rattle.board_terms.specs.declared.event.HostEvent.{HostEvent}
use Rattle.board_terms.specs.Matrix.{all_up}
use Rattle.joint_run.specs.Filled.{filled}
use Rattle.joint_run.specs.Joint.{Beside, joint_board, joint_cycle, joint_start_of, pins_by}
use Rattle.joint_run.specs.Run.{Board, World, joint_step, run_at}
use Rattle.law_halves_agree.specs.Loop.{Joined, PcSide, loop_at, loop_step, switched_on}

-- what is beside the processor in the joint run, as the loop has it: its controller by itself, with the pins B0
abbrev pub pc_side : Beside → PcSide
pc_side s = record {
  ctl = record { port = s.pc.side.port; clock = s.pc.clock; pins = 0xb0 };
  masked = s.pc.side.masked;
  bios = s.pc.side.bios;
  done = s.pc.side.done;
  log = s.pc.side.log;
  shown = s.shown;
}

-- a state of the joint run of a program as the loop has it, with these keys down
abbrev pub parted : List ℕ → List Bool → World Beside → Joined
parted program keys w = record {
  kbd = record { chip = record { image = record { bytes = program }; mcu = w.cpu }; matrix = keys };
  pc = pc_side w.board;
  cycle = w.cycle;
}

-- the board on which these keys are down
abbrev pub board_with : List Bool → List HostEvent → Board
board_with keys events = record {
  State = Beside;
  pins = λ p1 p2 cycle s. pins_by keys p1 p2 s;
  cycle = joint_cycle events;
}

-- switched on, both are in one state
abbrev pub BeginLaw : Type 0
BeginLaw =
    (fill : ℕ) (program : List ℕ) → switched_on fill program ≡ parted program all_up (joint_start_of (filled fill))

-- from one state both come to one state, whatever it is and whichever keys are down; or both are stuck
abbrev pub StepLaw : Type 0
StepLaw =
    (keys : List Bool) (events : List HostEvent) (program : List ℕ) (w : World Beside)
    → loop_step events (parted program keys w)
    ≡ option_map (parted program keys) (joint_step (board_with keys events) program w)

-- both have a state, and it is the same; or both are stuck
abbrev pub IsParted : List ℕ → Option (World Beside) → Option Joined → Type 0
IsParted program None None = Unit {0}
IsParted program None (Some j) = ⊥
IsParted program (Some w) None = ⊥
IsParted program (Some w) (Some j) = j ≡ parted program j.kbd.matrix w

-- under a history, from power-on, after every step
abbrev pub RunLaw : Type 0
RunLaw =
    (fill : ℕ) (edges : List Edge) (events : List HostEvent) (program : List ℕ) (n : ℕ)
    → IsParted program (run_at (joint_board edges events) program (joint_start_of (filled fill)) n)
    (loop_at edges events (switched_on fill program) n)
