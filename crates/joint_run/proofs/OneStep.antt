-- The step of the machine is the joint step under every history in order whose next events are handed in.
use Rattle.std.proofs.Common.{◌≡◌, ◌<◌, ℕ, suc, ◌+◌, List, [], ◌++◌, length, take, Some, None, Ok, Err, refl, ap, sym, ◌∙◌, arith}
use Rattle.std.specs.Prelude.{slice_get, IfOk, OnOk}
use Rattle.std.specs.declared.option.Option.{Option}
use Rattle.std.specs.declared.result.Result.{Result}
use Rattle.board_terms.specs.declared.event.Edge.{Edge}
use Rattle.board_terms.specs.declared.event.HostEvent.{HostEvent}
use Rattle.board_terms.specs.Edges.{AreInOrder}
use Rattle.board_terms.specs.Matrix.{all_up, turned_by}
use Rattle.mcs48_core.specs.Cpu.{Cpu}
use Rattle.mcs48_core.specs.declared.levels.Pins.{Pins}
use Rattle.mcs48_core.specs.declared.stepping.Stuck.{Stuck}
use Rattle.mcs48_core.specs.Step.{Stepped, stepped}
use Rattle.joint_run.specs.declared.due.Due.{Due}
use Rattle.joint_run.specs.declared.due.Seen.{Seen}
use Rattle.joint_run.specs.declared.machine.Machine.{Machine}
use Rattle.joint_run.specs.Run.{World, after_cycles, seen, after_step, step_on, run_at}
use Rattle.joint_run.specs.Joint.{Beside, keys_at, pins_by, joint_pins, joint_cycle, joint_board, joint_start_of}
use Rattle.joint_run.specs.Due.{beside, outside_of, passed, made_first, keys_in_step, due_board}
use Rattle.joint_run.specs.Due.{world_of, due_step, machine_after, with_seen, IsSeen, IsJointStep}
use Rattle.joint_run.specs.History.{IsInRunFrom, IsDueOf, GoesOn, IsNext, IsStepOfRun}
use Rattle.joint_run.proofs.Made.{made_now, taken_now, reached_now, turned_on}
use Rattle.joint_run.proofs.Runs.{next_one, next_two, afterwards, same_cycles}

pins_are : (edges : List Edge) (p1 p2 cycle : ℕ) (s : Beside) → joint_pins edges p1 p2 cycle s ≡ pins_by (keys_at edges cycle) p1 p2 s
unfolding joint_pins
pins_are edges p1 p2 cycle s = refl

-- what a step answers of its cycles
abbrev pub AreFew : Result Seen Stuck → Type 0
AreFew result = IfOk result (λ seen. (0 < seen.cycles) × (seen.cycles < 3))

-- a step takes one or two cycles, as what was seen of it says
pub are_few_seen : (result : Result (Unit {0}) Stuck) (seen : Seen)
    → OnOk result (0 < seen.cycles) → OnOk result (seen.cycles < 3) → AreFew (with_seen result seen)
are_few_seen (Ok done) seen some few = (some, few)
are_few_seen (Err stuck) seen some few = tt

module _ (held : Cpu) (edges : List Edge) (events : List HostEvent) (order : AreInOrder edges) (m : Machine) (made : ℕ) (w : World Beside)
    (r : IsInRunFrom held edges events m made w) (due : Due) (d : IsDueOf edges events made w due) where
  abbrev firsts : List Edge
  firsts = made_first w.cycle due.edges.items

  keys_same : keys_at edges w.cycle ≡ keys_in_step due m
  keys_same =
      ap (λ es. turned_by es all_up) (made_now edges order made w.cycle due.edges.items r.reached d.next d.all)
      ∙ turned_on (take made edges) firsts all_up
      ∙ ap (λ c. turned_by (made_first c due.edges.items) (turned_by (take made edges) all_up)) (sym r.cycle)
      ∙ ap (λ k. turned_by (made_first m.cycle due.edges.items) k) (sym r.matrix)

  pins_same : seen (joint_board edges events) w ≡ pins_by (keys_in_step due m) m.mcu.p1 m.mcu.p2 (beside m.outside 0 [])
  pins_same =
      pins_are edges w.cpu.p1 w.cpu.p2 w.cycle w.board
      ∙ ap (λ k. pins_by k w.cpu.p1 w.cpu.p2 w.board) keys_same
      ∙ ap (λ c. pins_by (keys_in_step due m) c.p1 c.p2 w.board) (sym r.mcu)
      ∙ ap (λ o. pins_by (keys_in_step due m) m.mcu.p1 m.mcu.p2 (beside o 0 [])) (sym r.outside)

  abbrev given : Pins
  given = pins_by (keys_in_step due m) m.mcu.p1 m.mcu.p2 (beside m.outside 0 [])

  run_on : run_at (joint_board edges events) m.image.bytes (joint_start_of held) (suc m.steps)
      ≡ after_step (joint_board edges events) w (stepped m.image.bytes given m.mcu)
  run_on =
      ap (λ o. step_on (joint_board edges events) m.image.bytes o) r.run
      ∙ ap (λ p. after_step (joint_board edges events) w (stepped m.image.bytes p w.cpu)) pins_same
      ∙ ap (λ c. after_step (joint_board edges events) w (stepped m.image.bytes given c)) (sym r.mcu)

  -- the state after so many cycles with this processor, in the run and in the step
  abbrev came : Stepped → World Beside
  came n = record { cpu = n.cpu; board = after_cycles n.cycles w.cycle (joint_cycle events n.cpu.p2) w.board; cycle = w.cycle + n.cycles }

  abbrev alone : Stepped → Beside
  alone n = passed n.cycles m.cycle n.cpu.p2 due.host.items m.outside

  abbrev done : ℕ
  done = w.board.pc.side.done

  board_same : (n : Stepped) → 0 < n.cycles → n.cycles < 3 → (came n).board ≡ afterwards done w.board.pc.side.log (alone n)
  board_same n some few =
      ap (λ c. after_cycles n.cycles c (joint_cycle events n.cpu.p2) w.board) (sym r.cycle)
      ∙ ap (λ o. after_cycles n.cycles m.cycle (joint_cycle events n.cpu.p2) (beside o done w.board.pc.side.log)) (sym r.outside)
      ∙ same_cycles events due.host.items n.cpu.p2 done w.board.pc.side.log
      (next_one events done ∙ ap (λ (es : List HostEvent). slice_get es 0) (sym d.host))
      (next_two events done ∙ ap (λ (es : List HostEvent). slice_get es 1) (sym d.host)) m.cycle m.outside n.cycles some few

  taken_edges : (k : ℕ) → k ≡ length (made_first m.cycle due.edges.items) → take (made + k) edges ≡ take made edges ++ firsts
  taken_edges k e =
      ap (λ v. take (made + v) edges) (e ∙ ap (λ c. length (made_first c due.edges.items)) r.cycle)
      ∙ taken_now edges order made w.cycle due.edges.items r.reached d.next d.all

  goes : (n : Stepped) (seen : Seen) (new : Machine)
      → run_at (joint_board edges events) m.image.bytes (joint_start_of held) (suc m.steps) ≡ Some (came n)
      → new ≡ machine_after due m (record { cpu = n.cpu; board = alone n; cycle = m.cycle + n.cycles })
      → IsSeen due m (record { cpu = n.cpu; board = alone n; cycle = m.cycle + n.cycles }) seen → 0 < seen.cycles → seen.cycles < 3
      → GoesOn held edges events made w seen new
  goes n seen new run e s some few =
      let count : m.cycle + seen.cycles ≡ m.cycle + n.cycles = s.cycles in
      let same : (came n).board ≡ afterwards done w.board.pc.side.log (alone n) =
      board_same n (omega (arith, some, count)) (omega (arith, few, count)) in
      let on : m.steps + 1 ≡ suc m.steps = omega arith in
      let edges_now : take (made + seen.edges) edges ≡ take made edges ++ firsts = taken_edges seen.edges s.edges in
      record {
        next = came n;
        in_run = record {
          run = ap (λ (x : Machine). run_at (joint_board edges events) x.image.bytes (joint_start_of held) x.steps) e
              ∙ ap (λ k. run_at (joint_board edges events) m.image.bytes (joint_start_of held) k) on ∙ run;
          mcu = ap (λ (x : Machine). x.mcu) e;
          outside = ap (λ (x : Machine). x.outside) e ∙ ap outside_of (sym same);
          cycle = ap (λ (x : Machine). x.cycle) e ∙ ap (λ c. c + n.cycles) r.cycle;
          matrix = ap (λ (x : Machine). x.matrix) e
              ∙ ap (λ k. turned_by (made_first m.cycle due.edges.items) k) r.matrix
              ∙ ap (λ c. turned_by (made_first c due.edges.items) (turned_by (take made edges) all_up)) r.cycle
              ∙ sym (turned_on (take made edges) firsts all_up) ∙ ap (λ es. turned_by es all_up) (sym edges_now);
          reached = ap (λ es. made_first (w.cycle + n.cycles) es) edges_now
              ∙ reached_now edges order made w.cycle due.edges.items r.reached d.next d.all (w.cycle + n.cycles) (omega arith)
              ∙ sym edges_now;
        };
        log = ap (λ (x : Beside). x.pc.side.log) same ∙ ap (λ v. w.board.pc.side.log ++ v) (sym s.items);
        done = ap (λ (x : Beside). x.pc.side.done) same ∙ ap (λ v. done + v) (sym s.host);
      }

  by_row : (o : Option Stepped) (result : Result Seen Stuck) (new : Machine)
      → run_at (joint_board edges events) m.image.bytes (joint_start_of held) (suc m.steps) ≡ after_step (joint_board edges events) w o
      → IsJointStep due m (after_step (due_board due m) (world_of m) o) result new → AreFew result
      → IsNext held edges events m made w result new
  by_row None (Ok seen) new run h few = absurd h
  by_row None (Err stuck) new run h few = run
  by_row (Some n) (Ok seen) new run h few = goes n seen new run h.0 h.1 few.0 few.1
  by_row (Some n) (Err stuck) new run h few = absurd h

-- a step of the machine is the joint step of each history in order whose next events were handed in
pub step_of_run : (due : Due) (m : Machine) (result : Result Seen Stuck) (new : Machine)
    → IsJointStep due m (due_step due m) result new → AreFew result
    → IsStepOfRun due m result new
step_of_run due m result new h few held edges events made w order r d =
    by_row held edges events order m made w r due d
    (stepped m.image.bytes (pins_by (keys_in_step due m) m.mcu.p1 m.mcu.p2 (beside m.outside 0 [])) m.mcu)
    result new (run_on held edges events order m made w r due d) h few
