-- A cycle outside the processor, by the host's next event.
use Rattle.std.specs.Prelude.{ℕ, Bool, List, ◌++◌, not, ◌&&◌, ◌==◌}
use Rattle.std.specs.declared.option.Option.{Option}
use Rattle.board_terms.specs.declared.event.HostEvent.{HostEvent}
use Rattle.board_terms.specs.declared.lines.Lines.{Lines}
use Rattle.ctl_wire.specs.declared.wire.Wire.{Wire}
use Rattle.ctl_wire.specs.Cycles.{port_looked}
use Rattle.ctl_wire.specs.Wire.{drive, is_breakable}
use Rattle.host_turn.specs.declared.stamped.Stamped.{Stamped}
use Rattle.host_turn.specs.Cycle.{Cycled, cycled}
use Rattle.host_turn.specs.Rest.{is_at_rest, is_due, is_free}
use Rattle.host_turn.specs.Run.{lights_said, stamped}
use Rattle.joint_run.specs.declared.outside.Outside.{Outside}
use Rattle.ctl_wire.specs.Wires.{joined}
use Rattle.joint_run.specs.Joint.{latch_of, lights_of}

-- the wires, with what port 2 drives
abbrev pub outside_wires : ℕ → Outside → Lines
outside_wires p2 o = joined (latch_of p2) (drive o.desk.port.link)

-- nobody pulls a wire: port 2 lets both go, and the link is free
abbrev pub is_let_go : ℕ → Outside → Bool
is_let_go p2 o = (latch_of p2).clk && (latch_of p2).dat && is_free o.desk.port.link

-- the controller's look
abbrev pub looked_outside : ℕ → Lines → Outside → Outside
looked_outside now line o = record o {
  desk = record o.desk { port = port_looked now o.clock line o.desk.port };
  clock = line.clk;
}

-- the outcome of a cycle: the state after it, what was said, in order, and whether the host's next event was done
pub record Passed : Type 0 where
  pub outside : Outside
  pub items : List Stamped
  pub done : Bool

-- the lights, the look, and then the host and the controller
abbrev pub outside_cycle : ℕ → ℕ → Option HostEvent → Outside → Passed
outside_cycle now p2 next o =
    let l : Outside = looked_outside now (outside_wires p2 o) o in
    let c : Cycled Wire = cycled is_breakable now next l.desk in
    record {
      outside = record { desk = c.desk; clock = l.clock; shown = lights_of p2 };
      items = lights_said now o.shown (lights_of p2) ++ stamped now c.items;
      done = c.done;
    }

-- nothing happens in a cycle and nothing is said: the host and the controller rest, the lights stay, and the clock,
-- which no one but the keyboard drives then, doesn't fall
abbrev pub is_quiet : ℕ → ℕ → Option HostEvent → Outside → Bool
is_quiet now p2 next o =
    (is_at_rest o.desk && not (is_due now next)) && (lights_of p2 == o.shown) && not (o.clock && not (latch_of p2).clk)
