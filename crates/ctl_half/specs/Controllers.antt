-- The controller at its two wires, cycle by cycle, with a host that acts between its look and its settling.
use Rattle.std.specs.Prelude.{ℕ, ◌==◌, Bool, true, false, not, ◌&&◌, nat_le, Option, Some, None, is_some, if◌then◌else◌}
use Rattle.board_terms.specs.declared.lines.Lines.{Lines}
use Rattle.ctl_core.specs.Controller.{ControllerState, interrupt_enabled, is_64}
use Rattle.ctl_core.specs.declared.port.Input.{Input}
use Rattle.ctl_link.specs.declared.port.LinkEnd.{LinkEnd}
use Rattle.ctl_link.specs.Link.{Settled, port_at_start, broken_off, settled}
use Rattle.ctl_wire.specs.declared.wire.Wire.{Wire}
use Rattle.ctl_wire.specs.Cycles.{port_looked}
use Rattle.ctl_wire.specs.Wire.{is_breakable}

-- the controller with its end of the link, the level of the clock at its last look, and the pins of its input port
pub record CtlState : Type 0 where
  pub port : LinkEnd Wire
  pub clock : Bool
  pub pins : ℕ

-- the pins if nobody has set them: no jumper, and the lock is open
abbrev pub pins_in : Option ℕ → ℕ
pins_in None = 0xb0
pins_in (Some pins) = pins

-- before the first look the clock was high
abbrev pub at_start : CtlState
at_start = record { port = port_at_start Wire; clock = true; pins = 0xb0 }

-- after a reset; what the pins are wired to stays
abbrev pub reset_of : CtlState → CtlState
reset_of c = record at_start { pins = c.pins }

-- the look of a cycle at the wires
abbrev pub looked : ℕ → Lines → CtlState → CtlState
looked now line c = record c { port = port_looked now c.clock line c.port; clock = line.clk }

-- what the host did to the controller's buffers
abbrev pub with_core : ControllerState → CtlState → CtlState
with_core core c = record c { port = record c.port { core = core } }

-- the bits of a frame that noise may turn round: the eight of the byte, and the parity
abbrev pub is_turnable : ℕ → Bool
is_turnable bit = nat_le 1 bit && nat_le bit 9

-- noise turns round this bit of the next frame of the keyboard, if it is such a bit
abbrev pub with_flip : ℕ → CtlState → CtlState
with_flip bit c = if is_turnable bit then record c { port = record c.port { flip = Some bit } } else c

-- other levels at the pins of the input port
abbrev pub with_pins : ℕ → CtlState → CtlState
with_pins pins c = record c { pins = pins }

-- command C0, which reads the input port
abbrev pub is_pins_command : Option Input → Bool
is_pins_command None = false
is_pins_command (Some input) = is_64 input.port && (input.byte == 0xc0)

-- whether it was taken between two states of the buffers
abbrev pub reads_pins : ControllerState → ControllerState → Bool
reads_pins before after = is_pins_command before.input && not (is_some after.input)

-- the outcome of a settling, but what C0 put out is the pins
abbrev pub pins_put : ℕ → ControllerState → Settled Wire → Settled Wire
pins_put pins before s = record {
  port = record s.port {
    core = record s.port.core {
      output = if reads_pins before s.port.core then pins else s.port.core.output;
    };
  };
  did = s.did;
}

-- the settling of a cycle: a waiting input breaks off the keyboard's byte, if it may, and then the controller settles as
-- the machine's does, but what C0 puts out is the pins
abbrev pub settling : ℕ → CtlState → Settled Wire
settling now c = pins_put c.pins c.port.core (settled now (broken_off is_breakable now c.port))

abbrev pub settles : ℕ → CtlState → CtlState
settles now c = record c { port = (settling now c).port }

-- the interrupt line is up while the output buffer is full and its interrupt enabled
abbrev pub interrupts : CtlState → Bool
interrupts c = c.port.core.output_full && interrupt_enabled c.port.core
