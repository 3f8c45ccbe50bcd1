-- The controller with its wires, cycle by cycle.
use Rattle.std.specs.Prelude.{ℕ, ◌+◌, Bool, true, false, not, ◌&&◌, Some, None, if◌then◌else◌}
use Rattle.std.specs.declared.option.Option.{Option}
use Rattle.board_terms.specs.declared.lines.Lines.{Lines}
use Rattle.ctl_core.specs.Controller.{ControllerState}
use Rattle.ctl_link.specs.declared.port.LinkEnd.{LinkEnd}
use Rattle.ctl_link.specs.Link.{Settled, port_at_start, broken_off, settled}
use Rattle.ctl_wire.specs.declared.wire.Wire.{Wire}
use Rattle.ctl_wire.specs.Wire.{edge_at, is_breakable}

-- the controller with its link; the clock's level at its last look; the cycle of that look, or none; whether that look
-- waits for its settling
pub record WireState : Type 0 where
  pub port : LinkEnd Wire
  pub clock : Bool
  pub cycle : Option ℕ
  pub waits : Bool

-- before the first look the clock was high
abbrev pub at_start : WireState
at_start = record { port = port_at_start Wire; clock = true; cycle = None; waits = false }

-- the cycle of the next look
abbrev pub next_cycle : Option ℕ → ℕ
next_cycle None = 0
next_cycle (Some cycle) = cycle + 1

-- the controller after a look at the wires: the clock fell where it was high at the last look, and is low at this one
abbrev pub port_looked : ℕ → Bool → Lines → LinkEnd Wire → LinkEnd Wire
port_looked now clock line p = if clock && not line.clk then edge_at now line.dat p.link p else p

-- the look of a cycle
abbrev pub looked : ℕ → Lines → WireState → WireState
looked now line w = record {
  port = port_looked now w.clock line w.port;
  clock = line.clk;
  cycle = Some now;
  waits = true;
}

-- what the host did to the controller's buffers
abbrev pub with_core : ControllerState → WireState → WireState
with_core core w = record w { port = record w.port { core = core } }

-- the bit that noise turns round in the next frame of the keyboard
abbrev pub with_flip : ℕ → WireState → WireState
with_flip bit w = record w { port = record w.port { flip = Some bit } }

-- the settling of a cycle: a waiting input breaks off the keyboard's byte, if it may, and then the controller
-- settles
abbrev pub settling : ℕ → WireState → Settled Wire
settling now w = settled now (broken_off is_breakable now w.port)

abbrev pub settles : ℕ → WireState → WireState
settles now w = record w { port = (settling now w).port; waits = false }
