-- A turn of the loop is a step of the joint run, and the loop is the run.
use Rattle.std.proofs.Common.{◌≡◌, ℕ, zero, suc, ◌+◌, Bool, List, Some, None, refl, ap, sym, subst, ◌∙◌}
use Rattle.std.specs.Option.{option_map}
use Rattle.std.specs.declared.option.Option.{Option}
use Rattle.board_terms.specs.declared.event.Edge.{Edge}
use Rattle.board_terms.specs.declared.event.HostEvent.{HostEvent}
use Rattle.joint_run.specs.Filled.{filled}
use Rattle.joint_run.specs.Joint.{Beside, joint_board, joint_pins, joint_start_of, keys_at}
use Rattle.joint_run.specs.Run.{World, after_step, joint_step, run_at, seen, step_on}
use Rattle.mcs48_core.specs.Step.{Stepped, stepped}
use Rattle.law_halves_agree.specs.Law.{IsParted, board_with, parted}
use Rattle.law_halves_agree.specs.Loop.{Joined, loop_after, loop_at, loop_on, loop_step, switched_on}
use Rattle.law_halves_agree.proofs.Cycles.{more_cycles}

step_by : (keys : List Bool) (events : List HostEvent) (program : List ℕ) (w : World Beside) (o : Option Stepped)
    → loop_after events o (parted program keys w) ≡ option_map (parted program keys) (after_step (board_with keys events) w o)
step_by keys events program w None = refl
step_by keys events program w (Some n) =
    ap (λ pc. Some (record {
      kbd = record { chip = record { image = record { bytes = program }; mcu = n.cpu }; matrix = keys };
      pc = pc;
      cycle = w.cycle + n.cycles;
    })) (more_cycles events n.cpu.p2 n.cycles w.cycle w.board)

-- from one state, whichever keys are down
pub step_is : (keys : List Bool) (events : List HostEvent) (program : List ℕ) (w : World Beside)
    → loop_step events (parted program keys w) ≡ option_map (parted program keys) (joint_step (board_with keys events) program w)
step_is keys events program w = step_by keys events program w (stepped program (seen (board_with keys events) w) w.cpu)

-- under a history the keys are those of its edges
board_is : (edges : List Edge) (events : List HostEvent) (program : List ℕ) (w : World Beside)
    → joint_step (board_with (keys_at edges w.cycle) events) program w ≡ joint_step (joint_board edges events) program w
unfolding joint_pins
board_is edges events program w = refl

mapped : (program : List ℕ) (keys : List Bool) (o : Option (World Beside))
    → IsParted program o (option_map (parted program keys) o)
mapped program keys None = tt
mapped program keys (Some w) = refl

module _ (edges : List Edge) (events : List HostEvent) (program : List ℕ) where
  -- a turn from states that are the same
  on : (o : Option (World Beside)) (j : Option Joined) → IsParted program o j
      → IsParted program (step_on (joint_board edges events) program o) (loop_on edges events j)
  on None None h = tt
  on None (Some j) h = absurd h
  on (Some w) None h = absurd h
  on (Some w) (Some j) h =
      let keys = keys_at edges w.cycle in
      let same : loop_on edges events (Some j)
      ≡ option_map (parted program keys) (joint_step (joint_board edges events) program w) =
      ap (λ k. loop_on edges events (Some k)) h
      ∙ step_is keys events program w
      ∙ ap (option_map (parted program keys)) (board_is edges events program w) in
      subst (IsParted program (joint_step (joint_board edges events) program w)) (sym same)
      (mapped program keys (joint_step (joint_board edges events) program w))

  -- from power-on, after every step
  pub run_is : (fill n : ℕ)
      → IsParted program (run_at (joint_board edges events) program (joint_start_of (filled fill)) n)
      (loop_at edges events (switched_on fill program) n)
  run_is fill zero = refl
  run_is fill (suc n) =
      on (run_at (joint_board edges events) program (joint_start_of (filled fill)) n)
      (loop_at edges events (switched_on fill program) n) (run_is fill n)
