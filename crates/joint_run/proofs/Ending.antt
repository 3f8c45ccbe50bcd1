-- The cycles of a step pass, by the latch of port 2 and by the events that were handed in.
use Rattle.std.proofs.Common.{◌≡◌, ℕ, List, subst}
use Rattle.board_terms.specs.declared.event.HostEvent.{HostEvent}
use Rattle.board_terms.specs.declared.lines.Lines.{Lines}
use Rattle.host_turn.specs.declared.stamped.Stamped.{Stamped}
use Rattle.mcs48_core.specs.Cpu.{Cpu}
use Rattle.joint_run.specs.Due.{ended, HasPassed, IsSeen}
use Rattle.joint_run.specs.Edgeless.{without_edges}
use Rattle.joint_run.specs.declared.due.Seen.{Seen}
use Rattle.joint_run.specs.declared.due.Due.{Due}
use Rattle.joint_run.specs.declared.machine.Machine.{Machine}
use Rattle.joint_run.specs.declared.outside.Outside.{Outside}
use Rattle.joint_run.proofs.Stepping.{came}

-- the cycles of a step pass alike by the machine's own latch and the events that were handed in
pub passed_by : (m : Machine) (due : Due) (cycles p2 : ℕ) (events : List HostEvent) (new : Outside)
    (said : List Stamped) (answer : ℕ × Lines × Lines)
    → p2 ≡ m.mcu.p2 → events ≡ due.host.items → HasPassed cycles m.cycle p2 events m.outside new said answer
    → HasPassed cycles m.cycle m.mcu.p2 due.host.items m.outside new said answer
passed_by m due cycles p2 events new said answer latch same h =
    subst (λ (es : List HostEvent). HasPassed cycles m.cycle m.mcu.p2 es m.outside new said answer) same
    (subst (λ (p : ℕ). HasPassed cycles m.cycle p events m.outside new said answer) latch h)

-- what is reported of a step, by the machine before it
pub seen_by : (m : Machine) (cpu : Cpu) (cycles : ℕ) (due : Due) (after : Machine) (seen : Seen) → after ≡ record m { mcu = cpu }
    → IsSeen (without_edges due) after (ended cycles due after) seen
    → IsSeen (without_edges due) m (came (without_edges due) m cycles cpu) seen
seen_by m cpu cycles due after seen e h =
    let there : IsSeen (without_edges due) (record m { mcu = cpu }) (ended cycles due (record m { mcu = cpu })) seen =
    subst (λ (x : Machine). IsSeen (without_edges due) x (ended cycles due x) seen) e h in
    record { cycles = there.cycles; edges = there.edges; host = there.host; items = there.items; lines = there.lines }
