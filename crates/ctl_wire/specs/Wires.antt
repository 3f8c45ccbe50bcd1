-- A cycle of the PC's side, by what the keyboard drives in it.
use Rattle.std.specs.Prelude.{ℕ, Bool, true, ◌&&◌, List}
use Rattle.board_terms.specs.declared.event.HostEvent.{HostEvent}
use Rattle.board_terms.specs.declared.lines.Lines.{Lines}
use Rattle.ctl_wire.specs.declared.wire.Wire.{Wire}
use Rattle.ctl_wire.specs.Cycles.{port_looked}
use Rattle.ctl_wire.specs.Wire.{drive, is_breakable}
use Rattle.host_turn.specs.Run.{Side, side_at_start, goes_on}

-- the controller with a byte under way as bits on the wires, the host and INT 09h; and the level of the clock at the
-- controller's last look
pub record Pc : Type 0 where
  pub side : Side Wire
  pub clock : Bool

-- before the first look the clock is high
abbrev pub pc_at_start : Pc
pc_at_start = record { side = side_at_start Wire; clock = true }

-- a wire is low if either side pulls it
abbrev pub joined : Lines → Lines → Lines
joined a b = record { clk = a.clk && b.clk; dat = a.dat && b.dat }

-- the wires: what the keyboard drives, with what the controller drives since its last cycle
abbrev pub wires : Lines → Pc → Lines
wires latch b = joined latch (drive b.side.port.link)

-- the controller looks at the wires: the clock falls if it was high at the last look and is low now
abbrev pub looked : ℕ → Lines → Pc → Pc
looked now line b = record {
  side = record b.side { port = port_looked now b.clock line b.side.port };
  clock = line.clk;
}

-- the host acts, a waiting input breaks off the keyboard's byte if it may, and the controller settles
abbrev pub went_on : List HostEvent → ℕ → Pc → Pc
went_on events now b = record { side = goes_on is_breakable events now b.side; clock = b.clock }

-- a cycle: the controller looks at the wires as its last cycle left them; the host acts; the controller settles
unfoldable pub board_cycle : List HostEvent → ℕ → Lines → Pc → Pc
board_cycle events now latch b = went_on events now (looked now (wires latch b) b)
