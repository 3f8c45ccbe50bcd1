-- A joint machine in a state of the run is seen as that state is.
use Rattle.std.proofs.Common.{◌≡◌, ℕ, ap, ◌∙◌}
use Rattle.joint_run.specs.Cycle.{outside_wires}
use Rattle.joint_run.specs.Due.{outside_of}
use Rattle.joint_run.specs.Joint.{Beside}
use Rattle.joint_run.specs.Run.{World}
use Rattle.joint_run.specs.declared.machine.Machine.{Machine}
use Rattle.joint_run.specs.declared.outside.Outside.{Outside}
use Rattle.mcs48_core.specs.Cpu.{Cpu}
use Rattle.run_probes.specs.Probes.{Sight, sight_in, sight_of}

abbrev sight : Cpu → ℕ → Outside → Sight
sight cpu cycle o = record { cpu = cpu; cycle = cycle; lines = outside_wires cpu.p2 o }

-- a joint machine in a state of the run is seen as that state is
pub same_sight : (m : Machine) (w : World Beside)
    → m.mcu ≡ w.cpu → m.outside ≡ outside_of w.board → m.cycle ≡ w.cycle → sight_of m ≡ sight_in w
same_sight m w cpu outside cycle =
    ap (λ (c : Cpu). sight c m.cycle m.outside) cpu ∙ ap (λ (o : Outside). sight w.cpu m.cycle o) outside
    ∙ ap (λ (n : ℕ). sight w.cpu n (outside_of w.board)) cycle
