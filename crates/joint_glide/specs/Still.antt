-- Cycles in which nothing changes outside the processor.
use Rattle.std.specs.Prelude.{◌≡◌, ◌≤◌, ◌<◌, ◌+◌, ℕ, false, List, [], ◌∷◌, max, min, slice_get}
use Rattle.std.specs.declared.option.Option.{Option}
use Rattle.board_terms.specs.declared.event.Edge.{Edge}
use Rattle.board_terms.specs.declared.event.HostEvent.{HostEvent}
use Rattle.ctl_wire.specs.Wire.{is_breakable}
use Rattle.host_wakes.specs.Wakes.{wakes}
use Rattle.joint_run.specs.Cycle.{outside_cycle, outside_wires}
use Rattle.joint_run.specs.Due.{made_first}
use Rattle.joint_run.specs.Joint.{lights_of}
use Rattle.joint_run.specs.declared.due.Due.{Due}
use Rattle.joint_run.specs.declared.machine.Machine.{Machine}
use Rattle.joint_run.specs.declared.outside.Outside.{Outside}

-- a cycle, by port 2 and the host's next event: nothing changes in it, nothing is said, and the event isn't done
abbrev pub IsStill : ℕ → ℕ → Option HostEvent → Outside → Type 0
IsStill now p2 next o = outside_cycle now p2 next o ≡ record { outside = o; items = []; done = false }

-- the machine's cycles up to one are such cycles, as long as port 2 keeps its latch, and no edge is made in them
pub record IsStillTo (due : Due) (m : Machine) (to : ℕ) : Type 0 where
  pub still : (now : ℕ) → m.cycle ≤ now → now < to → IsStill now m.mcu.p2 (slice_get due.host.items 0) m.outside
  pub edges : (now : ℕ) → m.cycle ≤ now → now < to → made_first now due.edges.items ≡ []

-- what port 2 drives is noted: its lights are shown, and the controller's last look saw the clock's level
pub record IsNoted (m : Machine) : Type 0 where
  pub shown : lights_of m.mcu.p2 ≡ m.outside.shown
  pub level : (outside_wires m.mcu.p2 m.outside).clk ≡ m.outside.clock

-- the cycle in which the first of these edges is made, or the end, if that comes first
abbrev pub edge_or : List Edge → ℕ → ℕ
edge_or [] end = end
edge_or (edge ∷ more) end = min (edge.stamp + 4096) end

-- the first cycle from now on, at most so many later, in which an edge is made or the PC wakes
abbrev pub first_stir : Due → Machine → ℕ → ℕ
first_stir due m most =
    let end = max (edge_or due.edges.items (m.cycle + most)) m.cycle in
    max m.cycle (min (wakes is_breakable (slice_get due.host.items 0) m.outside.desk end) end)
