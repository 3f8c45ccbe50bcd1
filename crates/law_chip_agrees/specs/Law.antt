-- A chip that is given the levels of the board is the processor of the joint run.
use Rattle.std.specs.Prelude.{◌≡◌, ◌+◌, ℕ, suc, List, Option, None, Some}
use Rattle.board_terms.specs.declared.event.Edge.{Edge}
use Rattle.board_terms.specs.declared.event.HostEvent.{HostEvent}
use Rattle.mcs48_core.specs.Cpu.{Cpu}
use Rattle.joint_run.specs.Run.{World, after_cycles, joint_step, run_at, seen}
use Rattle.joint_run.specs.Joint.{Beside, joint_board, joint_cycle, joint_start_of, powered}
use Rattle.joint_run.specs.Filled.{filled}
use Rattle.chip_core.specs.declared.chip.Chip.{Chip}
use Rattle.chip_core.specs.Chips.{after, cycles_of, next_of, powered_on}

-- a chip with this program in this state
abbrev pub chip_of : List ℕ → Cpu → Chip
chip_of program cpu = record { image = record { bytes = program }; mcu = cpu }

-- the step of a chip with this program, in the state of the board's processor, at the levels that the board shows: what it
-- answers, and the chip after it
abbrev pub answered : List Edge → List HostEvent → List ℕ → World Beside → ℕ
answered edges events program w = cycles_of (next_of (seen (joint_board edges events) w) (chip_of program w.cpu))

abbrev pub stepped_on : List Edge → List HostEvent → List ℕ → World Beside → Chip
stepped_on edges events program w =
    after (next_of (seen (joint_board edges events) w) (chip_of program w.cpu)) (chip_of program w.cpu)

-- the joint step is that step and its cycles, in each of which the board sees the latch that it leaves; if the joint run has
-- no next state, the chip answers 0
pub record IsStepOf (edges : List Edge) (events : List HostEvent) (program : List ℕ) (w v : World Beside) : Type 0 where
  pub chip : stepped_on edges events program w ≡ chip_of program v.cpu
  pub time : v.cycle ≡ w.cycle + answered edges events program w
  pub latch : v.board ≡ after_cycles (answered edges events program w) w.cycle
      (joint_cycle events (stepped_on edges events program w).mcu.p2) w.board

abbrev pub IsNextOf : List Edge → List HostEvent → List ℕ → World Beside → Option (World Beside) → Type 0
IsNextOf edges events program w None = answered edges events program w ≡ 0
IsNextOf edges events program w (Some v) = IsStepOf edges events program w v

abbrev pub StepLaw : Type 0
StepLaw =
    (edges : List Edge) (events : List HostEvent) (program : List ℕ) (w : World Beside)
    → IsNextOf edges events program w (joint_step (joint_board edges events) program w)

-- chips, each one step after the one before, at the levels that the board shows after so many steps of a run
abbrev pub IsWired : List Edge → List HostEvent → List ℕ → World Beside → (ℕ → Chip) → Type 0
IsWired edges events program from chips =
    (n : ℕ) (w : World Beside) → run_at (joint_board edges events) program from n ≡ Some w
    → chips (suc n) ≡ after (next_of (seen (joint_board edges events) w) (chips n)) (chips n)

-- from a reset of a part that held anything, with an interrupt in service or not
abbrev pub RunLaw : Type 0
RunLaw =
    (held : Cpu) (edges : List Edge) (events : List HostEvent) (program : List ℕ) (chips : ℕ → Chip)
    → chips 0 ≡ chip_of program (powered held) → IsWired edges events program (joint_start_of held) chips
    → (n : ℕ) (w : World Beside) → run_at (joint_board edges events) program (joint_start_of held) n ≡ Some w
    → chips n ≡ chip_of program w.cpu

-- a chip that was just switched on is such a part that held this byte all over
abbrev pub FillLaw : Type 0
FillLaw = (fill : ℕ) (program : List ℕ) → powered_on fill program ≡ chip_of program (powered (filled fill))
