-- The controller's state, and what the host does with it.
use Rattle.std.specs.Prelude.{ℕ, ◌+◌, Bool, true, false, not, ◌&&◌, nat_lt, Option, Some, None, is_some}
use Rattle.bits.specs.Bits.{has_bit, bit_value}
use Rattle.ctl_core.specs.declared.port.Input.{Input}
use Rattle.ctl_core.specs.declared.port.Port.{Port}
use Rattle.ctl_core.specs.declared.port.Port.TheVariants.{P60, P64}
use Rattle.ctl_core.specs.declared.command.Parameter.{Parameter}

-- the input buffer's byte with its port, or none; whether the output buffer is full, and its last byte; the command
-- byte; the parameter that a command awaits, or none; the last byte for the output port; whether a break was begun; the
-- status's parity bit; whether the last write was to 64h; how often in a row the keyboard's byte came wrong and was
-- asked for again
pub record ControllerState : Type 0 where
  pub input : Option Input
  pub output_full : Bool
  pub output : ℕ
  pub command_byte : ℕ
  pub awaited : Option Parameter
  pub output_port : ℕ
  pub break_mark : Bool
  pub parity : Bool
  pub last_to_64 : Bool
  pub resends : ℕ

-- at the start both buffers are empty, and the command byte has interrupt, system flag and translation on
abbrev pub at_start : ControllerState
at_start = record {
  input = None;
  output_full = false;
  output = 0;
  command_byte = 0x45;
  awaited = None;
  output_port = 0xcf;
  break_mark = false;
  parity = false;
  last_to_64 = false;
  resends = 0;
}

-- the status: output full, input full, system flag, last write to 64h, bit 4 always 1, parity
abbrev pub status_of : ControllerState → ℕ
status_of s =
    bit_value 0x01 s.output_full + bit_value 0x02 (is_some s.input) + bit_value 0x04 (has_bit 0x04 s.command_byte)
    + bit_value 0x08 s.last_to_64 + 0x10 + bit_value 0x80 s.parity

-- whether the port is 64h
abbrev pub is_64 : Port → Bool
is_64 P60 = false
is_64 P64 = true

-- a byte that the host writes to a port fills the input buffer
abbrev pub written : Port → ℕ → ControllerState → ControllerState
written port byte s = record s { input = Some (record { port = port; byte = byte }); last_to_64 = is_64 port }

-- a read of 60h empties the output buffer
abbrev pub emptied : ControllerState → ControllerState
emptied s = record s { output_full = false }

-- a byte that the controller puts out fills the output buffer and clears the parity bit
abbrev pub put_out : ℕ → ControllerState → ControllerState
put_out byte s = record s { output_full = true; output = byte; parity = false }

-- a byte that came wrong is asked for again, three times in a row at most
abbrev pub asks_again : ControllerState → Bool
asks_again s = nat_lt s.resends 3

-- then the controller gives up: FF is put out, with the parity bit set
abbrev pub gave_up : ControllerState → ControllerState
gave_up s = record (put_out 0xff s) { parity = true; resends = 0 }

-- bit 0 of the command byte: a full output buffer interrupts
abbrev pub interrupt_enabled : ControllerState → Bool
interrupt_enabled s = has_bit 0x01 s.command_byte

-- bit 4 of the command byte: the keyboard is disabled
abbrev pub is_disabled : ControllerState → Bool
is_disabled s = has_bit 0x10 s.command_byte

-- whether both buffers are empty and the keyboard isn't disabled
abbrev pub is_idle : ControllerState → Bool
is_idle s = not (is_some s.input) && not s.output_full && not (is_disabled s)
