-- The events that a step makes and does are among those handed in.
use Rattle.std.proofs.Common.{◌≡◌, ◌≤◌, ◌<◌, ℕ, zero, suc, ◌+◌, true, false, List, [], ◌∷◌, length, Some, None, refl, subst, arith}
use Rattle.std.specs.Prelude.{if◌then◌else◌, slice_get}
use Rattle.std.specs.declared.option.Option.{Option}
use Rattle.board_terms.specs.declared.event.Edge.{Edge}
use Rattle.board_terms.specs.declared.event.HostEvent.{HostEvent}
use Rattle.board_terms.specs.Edges.{is_made}
use Rattle.ctl_core.specs.Controller.{ControllerState}
use Rattle.host_turn.specs.Host.{is_done}
use Rattle.host_turn.specs.Run.{goes_on, says_lights}
use Rattle.mcs48_core.specs.Step.{Stepped, stepped}
use Rattle.joint_run.specs.declared.due.Due.{Due}
use Rattle.joint_run.specs.declared.machine.Machine.{Machine}
use Rattle.joint_run.specs.Due.{due_board, due_step, world_of}
use Rattle.joint_run.specs.Joint.{Beside, joint_cycle, latch_of, lights_of}
use Rattle.joint_run.specs.Run.{World, after_step, seen, after_cycles}
use Rattle.ctl_wire.specs.Wires.{Pc, board_cycle, looked, wires}
use Rattle.joint_run.specs.Due.{made_first}

-- no more edges are made than were handed in
pub made_few : (cycle : ℕ) (edges : List Edge) → length (made_first cycle edges) ≤ length edges
made_few cycle [] = omega arith
made_few cycle (e ∷ es) = elim (is_made cycle e) as (λ b. length (if b then e ∷ made_first cycle es else []) ≤ suc (length es)) [
  | true ↦ let l = made_few cycle es in omega (arith, l)
  | false ↦ omega arith
]

-- an event that is done is there
there : (events : List HostEvent) (k : ℕ) (e : HostEvent) → slice_get events k ≡ Some e → k < length events
there [] k e h = absurd cc
there (x ∷ xs) zero e h = omega arith
there (x ∷ xs) (suc k) e h = let l = there xs k e h in omega (arith, l)

-- an event that is done is one of the events
pub done_there : (now : ℕ) (events : List HostEvent) (k : ℕ) (core : ControllerState)
    → is_done now (slice_get events k) core ≡ true → k < length events
done_there now events k core h =
    elim (slice_get events k) as (λ o. slice_get events k ≡ o → is_done now o core ≡ true → k < length events) [
      | None ↦ λ e g. absurd cc
      | Some event ↦ λ e g. there events k event e
    ] refl h

one_more : (events : List HostEvent) (now k : ℕ) (core : ControllerState)
    → k ≤ length events → (if is_done now (slice_get events k) core then k + 1 else k) ≤ length events
one_more events now k core l =
    elim (is_done now (slice_get events k) core) as (λ b. is_done now (slice_get events k) core ≡ b
    → (if b then k + 1 else k) ≤ length events) [
      | true ↦ λ h. let m = done_there now events k core h in omega (arith, m)
      | false ↦ λ h. l
    ] refl

cycle_done : (events : List HostEvent) (p2 now : ℕ) (s : Beside)
    → s.pc.side.done ≤ length events → (joint_cycle events p2 now s).pc.side.done ≤ length events
unfolding joint_cycle board_cycle goes_on
cycle_done events p2 now s l =
    let lit : Pc = record s.pc { side = says_lights now s.shown (lights_of p2) s.pc.side } in
    let b : Pc = looked now (wires (latch_of p2) lit) lit in
    one_more events now s.pc.side.done b.side.port.core l

cycles_done : (events : List HostEvent) (p2 n now : ℕ) (s : Beside)
    → s.pc.side.done ≤ length events → (after_cycles n now (joint_cycle events p2) s).pc.side.done ≤ length events
cycles_done events p2 zero now s l = l
cycles_done events p2 (suc n) now s l = cycles_done events p2 n (now + 1) (joint_cycle events p2 now s) (cycle_done events p2 now s l)

after_done : (due : Due) (m : Machine) (w : World Beside) (n : Option Stepped)
    → after_step (due_board due m) (world_of m) n ≡ Some w → w.board.pc.side.done ≤ length due.host.items
after_done due m w None h = absurd cc
after_done due m w (Some n) h =
    let e : record {
      cpu = n.cpu;
      board = after_cycles n.cycles m.cycle (joint_cycle due.host.items n.cpu.p2) (world_of m).board;
      cycle = m.cycle + n.cycles;
    } ≡ w = cc h in
    subst (λ (v : World Beside). v.board.pc.side.done ≤ length due.host.items) e
    (cycles_done due.host.items n.cpu.p2 n.cycles m.cycle (world_of m).board (omega arith))

-- no more of the host's events are done in a step than are handed in
pub done_few : (due : Due) (m : Machine) (w : World Beside) → due_step due m ≡ Some w → w.board.pc.side.done ≤ length due.host.items
done_few due m w h = after_done due m w (stepped m.image.bytes (seen (due_board due m) (world_of m)) m.mcu) h
