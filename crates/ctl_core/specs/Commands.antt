-- What the controller does with a byte of its input buffer.
use Rattle.std.specs.Prelude.{ℕ, ◌%◌, ◌==◌, nat_le, Option, Some, None, if◌then◌else◌}
use Rattle.std.specs.Option.{option_map_or}
use Rattle.bits.specs.Bits.{with_bit, without_bit}
use Rattle.ctl_core.specs.Controller.{ControllerState, put_out}
use Rattle.ctl_core.specs.declared.port.Port.{Port}
use Rattle.ctl_core.specs.declared.port.Port.TheVariants.{P60, P64}
use Rattle.ctl_core.specs.declared.port.Input.{Input}
use Rattle.ctl_core.specs.declared.command.Parameter.{Parameter}
use Rattle.ctl_core.specs.declared.command.Parameter.TheVariants.{CommandByte, OutputPort}
use Rattle.ctl_core.specs.declared.command.Command.{Command}
use Rattle.ctl_core.specs.declared.command.Command.TheVariants.{
  ReadCommandByte,
  WriteCommandByte,
  SelfTest,
  InterfaceTest,
  Disable,
  Enable,
  ReadInputPort,
  ReadOutputPort,
  WriteOutputPort,
  PulseOutput,
  Unlisted,
}
use Rattle.ctl_core.specs.declared.controller.Did.{Did}
use Rattle.ctl_core.specs.declared.controller.Did.TheVariants.{Nothing, ToKeyboard, Output, Pulse}

-- the commands of 64h
abbrev pub command_of : ℕ → Command
command_of byte =
    if byte == 0x20 then ReadCommandByte
    else if byte == 0x60 then WriteCommandByte
    else if byte == 0xaa then SelfTest
    else if byte == 0xab then InterfaceTest
    else if byte == 0xad then Disable
    else if byte == 0xae then Enable
    else if byte == 0xc0 then ReadInputPort
    else if byte == 0xd0 then ReadOutputPort
    else if byte == 0xd1 then WriteOutputPort
    else if nat_le 0xf0 byte then PulseOutput (byte % 16)
    else Unlisted

-- what is reported of a byte taken, and the state after it
pub record Taken : Type 0 where
  pub did : Did
  pub state : ControllerState

abbrev pub quietly : ControllerState → Taken
quietly s = record { did = Nothing; state = s }

-- each command, once a wait for a parameter has ended
abbrev pub commanded : Command → ControllerState → Taken
commanded ReadCommandByte s = quietly (put_out s.command_byte s)
commanded WriteCommandByte s = quietly (record s { awaited = Some CommandByte })
commanded SelfTest s = quietly (put_out 0x55 s)
commanded InterfaceTest s = quietly (put_out 0x00 s)
commanded Disable s = quietly (record s { command_byte = with_bit 0x10 s.command_byte })
commanded Enable s = quietly (record s { command_byte = without_bit 0x10 s.command_byte })
commanded ReadInputPort s = quietly (put_out 0xb0 s)
commanded ReadOutputPort s = quietly (put_out s.output_port s)
commanded WriteOutputPort s = quietly (record s { awaited = Some OutputPort })
commanded (PulseOutput lines) s = record { did = Pulse lines; state = s }
commanded Unlisted s = quietly s

-- a byte of 60h is the awaited parameter; if none is awaited it is for the keyboard, and clears the disable bit
abbrev pub passed : Option Parameter → ℕ → ControllerState → Taken
passed (Some CommandByte) byte s = quietly (record s { command_byte = byte })
passed (Some OutputPort) byte s = record { did = Output byte; state = record s { output_port = byte } }
passed None byte s = record {
  did = ToKeyboard byte;
  state = record s { command_byte = without_bit 0x10 s.command_byte };
}

-- a byte by its port; either way a wait for a parameter ends
abbrev pub taken_by : Port → ℕ → ControllerState → Taken
taken_by P60 byte s = passed s.awaited byte (record s { input = None; awaited = None })
taken_by P64 byte s = commanded (command_of byte) (record s { input = None; awaited = None })

-- the input buffer's byte is taken if there is one
abbrev pub taken_from : Option Input → ControllerState → Option Taken
taken_from None s = None
taken_from (Some input) s = Some (taken_by input.port input.byte s)

abbrev pub taken : ControllerState → Option Taken
taken s = taken_from s.input s

-- the state after that; an empty input buffer leaves it
abbrev pub after_taken : ControllerState → ControllerState
after_taken s = option_map_or (λ t. t.state) (taken s) s
