-- A step of the joint run: its cycles, and what it makes of what is beside the processor.
use Rattle.std.proofs.Common.{◌≡◌, ◌≤◌, ◌⊎◌, ℕ, ◌+◌, List, Some, None}
use Rattle.std.proofs.Common.{refl, subst}
use Rattle.std.specs.declared.option.Option.{Option}
use Rattle.board_terms.specs.declared.event.Edge.{Edge}
use Rattle.board_terms.specs.declared.event.HostEvent.{HostEvent}
use Rattle.joint_run.specs.Joint.{Beside, joint_board, joint_cycle}
use Rattle.joint_run.specs.Run.{World, after_cycles, after_step, joint_step, seen}
use Rattle.mcs48_core.specs.Step.{Stepped, stepped}
use Rattle.law_wires_heard.proofs.Port2.{stepped_timed}

-- one step: its cycles, in each of which the latch of port 2 is that after it; two where the latch has changed
pub record StepOf (events : List HostEvent) (one next : World Beside) : Type 0 where
  pub count : ℕ
  pub least : 1 ≤ count
  pub most : count ≤ 2
  pub cycle : next.cycle ≡ one.cycle + count
  pub board : next.board ≡ after_cycles count one.cycle (joint_cycle events next.cpu.p2) one.board
  pub slow : (next.cpu.p2 ≡ one.cpu.p2) ⊎ (count ≡ 2)

same_some : {A : Type 0} (a b : A) → Some a ≡ Some b → a ≡ b
same_some a b e = cc

step_by : (edges : List Edge) (events : List HostEvent) (bytes : List ℕ) (one next : World Beside) (o : Option Stepped)
    → stepped bytes (seen (joint_board edges events) one) one.cpu ≡ o
    → after_step (joint_board edges events) one o ≡ Some next → StepOf events one next
step_by edges events bytes one next None is h = absurd cc
step_by edges events bytes one next (Some n) is h =
    let t = stepped_timed bytes (seen (joint_board edges events) one) one.cpu n is in
    let e : World Beside =
    record {
      cpu = n.cpu;
      board = after_cycles n.cycles one.cycle (joint_cycle events n.cpu.p2) one.board;
      cycle = one.cycle + n.cycles;
    } in
    subst (λ w. StepOf events one w) (same_some e next h) (record {
      count = n.cycles;
      least = t.least;
      most = t.most;
      cycle = refl;
      board = refl;
      slow = t.slow;
    })

-- a step of the joint run is one or two cycles, in each of which port 2 has the latch that it has after the step
pub step_of : (edges : List Edge) (events : List HostEvent) (bytes : List ℕ) (one next : World Beside)
    → joint_step (joint_board edges events) bytes one ≡ Some next → StepOf events one next
step_of edges events bytes one next h =
    step_by edges events bytes one next (stepped bytes (seen (joint_board edges events) one) one.cpu) refl h
