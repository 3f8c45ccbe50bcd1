-- Boards above the joint run's board: they show what it shows, and a cycle of theirs makes a cycle of it. What else
-- they note is theirs.
use Rattle.std.proofs.Common.{◌≡◌, ℕ, suc, zero, ◌+◌, List, refl, ap, ◌∙◌}
use Rattle.board_terms.specs.declared.event.Edge.{Edge}
use Rattle.board_terms.specs.declared.event.HostEvent.{HostEvent}
use Rattle.joint_run.specs.Joint.{Beside, joint_pins, joint_cycle, joint_board}
use Rattle.joint_run.specs.Run.{Board, World, after_cycles}
use Rattle.law_fw_link.proofs.Latches.{driven}

-- each state has one of the joint board's: it shows the same, and goes on as that one does
pub record IsOver (edges : List Edge) (events : List HostEvent) (d : Board) (to : d.State → Beside) : Type 0 where
  pub pins : (p1 p2 cycle : ℕ) (s : d.State) → d.pins p1 p2 cycle s ≡ joint_pins edges p1 p2 cycle (to s)
  pub cycle : (p2 cycle : ℕ) (s : d.State) → to (d.cycle p2 cycle s) ≡ joint_cycle events p2 cycle (to s)

-- a state of a run on such a board, as one of the joint run
abbrev pub under : {S : Type 0} → (S → Beside) → World S → World Beside
under to w = record { cpu = w.cpu; board = to w.board; cycle = w.cycle }

-- the joint board is above itself
pub itself : (edges : List Edge) (events : List HostEvent) → IsOver edges events (joint_board edges events) (λ s. s)
itself edges events = record { pins = λ p1 p2 cycle s. refl; cycle = λ p2 cycle s. refl }

module _ (edges : List Edge) (events : List HostEvent) (d : Board) (to : d.State → Beside)
    (over : IsOver edges events d to) where
  -- so it is over any number of cycles
  pub driven_over : (x : ℕ) (latch : ℕ → ℕ) (n from : ℕ) (s : d.State)
      → to (driven d x latch n from s) ≡ driven (joint_board edges events) x latch n from (to s)
  driven_over x latch zero from s = refl
  driven_over x latch (suc n) from s =
      driven_over x latch n (from + 1) (d.cycle (latch from) (x + from) s)
      ∙ ap (λ b. driven (joint_board edges events) x latch n (from + 1) b) (over.cycle (latch from) (x + from) s)

  -- cycles of a board above the joint one are cycles of the joint one beneath it
  pub ticks_over : (n y v : ℕ) (s : d.State)
      → to (after_cycles n y (d.cycle v) s) ≡ after_cycles n y ((joint_board edges events).cycle v) (to s)
  ticks_over zero y v s = refl
  ticks_over (suc n) y v s =
      ticks_over n (y + 1) v (d.cycle v y s)
      ∙ ap (λ b. after_cycles n (y + 1) ((joint_board edges events).cycle v) b) (over.cycle v y s)
