-- What the calls take and answer, as numbers.
use Rattle.std.specs.Prelude.{ℕ, ◌+◌, ℤ, pos, Bool, true, false, nat_lt, Option, None, Some, if◌then◌else◌}
use Rattle.bits.specs.Bits.{bit}
use Rattle.board_terms.specs.declared.lines.Lines.{Lines}
use Rattle.board_terms.specs.Matrix.{turned}
use Rattle.ctl_core.specs.declared.controller.Did.{Did}
use Rattle.ctl_core.specs.declared.controller.Did.TheVariants.{Nothing, ToKeyboard, Output, Pulse}
use Rattle.ctl_core.specs.declared.port.Input.{Input}
use Rattle.ctl_core.specs.declared.port.Port.{Port}
use Rattle.ctl_core.specs.declared.port.Port.TheVariants.{P60, P64}
use Rattle.ctl_core.specs.Controller.{ControllerState, status_of, written}
use Rattle.ctl_half.specs.Controllers.{CtlState, with_core}
use Rattle.kbd_half.specs.declared.keyboard.KbdHalf.{KbdHalf}
use Rattle.kbd48_halves.specs.declared.controller.Registers.{Registers}

-- the levels of the two wires: bit 0 is the clock, bit 1 data, 1 for high
abbrev pub lines_in : ℕ → Lines
lines_in levels = record { clk = bit 0 levels; dat = bit 1 levels }

abbrev pub levels_of : Lines → ℕ
levels_of line = (if line.clk then 1 else 0) + (if line.dat then 2 else 0)

-- a truth value
abbrev pub truth_of : Bool → ℤ
truth_of false = pos 0
truth_of true = pos 1

-- the key at one of the 96 places goes down or up; another place changes nothing
abbrev pub keyed : ℕ → Bool → KbdHalf → KbdHalf
keyed place down k = if nat_lt place 96 then record k { matrix = turned place down k.matrix } else k

-- a port that the host writes: a command goes to 64h, data to 60h
abbrev pub port_of : Bool → Port
port_of false = P60
port_of true = P64

-- a write, which a full input buffer refuses
abbrev pub write_by : Option Input → Port → ℕ → CtlState → CtlState
write_by None port byte c = with_core (written port byte c.port.core) c
write_by (Some input) port byte c = c

-- what a write answers: whether the input buffer was empty
abbrev pub is_empty : Option Input → Bool
is_empty None = true
is_empty (Some input) = false

-- what the input that was taken did: its kind in the upper byte (0 nothing, 1 it is for the keyboard, 2 for the output port, 3
-- it pulses the port's lower lines), and its byte in the lower one
abbrev pub did_of : Did → ℕ
did_of Nothing = 0
did_of (ToKeyboard byte) = 0x100 + byte
did_of (Output byte) = 0x200 + byte
did_of (Pulse lines) = 0x300 + lines

-- what is seen of the controller
abbrev pub registers_of : ControllerState → Registers
registers_of s = record {
  status = status_of s;
  output = s.output;
  command_byte = s.command_byte;
  output_port = s.output_port;
}
