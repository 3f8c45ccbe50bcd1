-- The bytes of what is outside the processor, but for the link, the words of INT 09h and the keys.
use Rattle.std.specs.Prelude.{ℕ, ◌==◌, if◌then◌else◌, is_some, List, [], ◌∷◌, ◌++◌, slice_index, Some, None}
use Rattle.std.specs.declared.option.Option.{Option}
use Rattle.std.specs.Int.{w64, to_le_bytes, from_bool}
use Rattle.ctl_core.specs.Controller.{ControllerState}
use Rattle.ctl_core.specs.declared.command.Parameter.{Parameter}
use Rattle.ctl_core.specs.declared.command.Parameter.TheVariants.{CommandByte, OutputPort}
use Rattle.ctl_core.specs.declared.port.Input.{Input}
use Rattle.ctl_core.specs.declared.port.Port.{Port}
use Rattle.ctl_core.specs.declared.port.Port.TheVariants.{P60, P64}
use Rattle.ctl_link.specs.declared.link.Link.{Link}
use Rattle.ctl_wire.specs.declared.wire.Wire.{Wire}
use Rattle.int09.specs.Bios.{State}
use Rattle.joint_run.specs.declared.outside.Outside.{Outside}
use Rattle.mcs48_bytes.specs.Numbers.{byte_or_0, maybe_at, number_at, truth_at}

-- the input buffer: 0 for an empty one, 1 for a byte for port 60h, 2 for one for 64h
abbrev pub port_kind : Port → ℕ
port_kind P60 = 1
port_kind P64 = 2

abbrev pub input_kind : Option Input → ℕ
input_kind None = 0
input_kind (Some i) = port_kind i.port

abbrev pub input_byte : Option Input → ℕ
input_byte None = 0
input_byte (Some i) = i.byte

abbrev pub input_by : ℕ → ℕ → Option Input
input_by kind byte =
    if kind == 0 then None else Some (record { port = if kind == 1 then P60 else P64; byte = byte })

-- what the next byte of port 60h is: 0 for no parameter, 1 for the command byte, 2 for the output port's
abbrev pub awaited_byte : Option Parameter → ℕ
awaited_byte None = 0
awaited_byte (Some CommandByte) = 1
awaited_byte (Some OutputPort) = 2

abbrev pub awaited_by : ℕ → Option Parameter
awaited_by n = if n == 0 then None else if n == 1 then Some CommandByte else Some OutputPort

-- the controller's 11 bytes: the input buffer (2 bytes), whether the output buffer is full, its byte, the command byte,
-- the parameter that is awaited, the output port, whether a break was begun, the parity bit, whether the last write
-- was to port 64h, and how often in a row a byte was asked for again
abbrev pub controller_bytes : ControllerState → List ℕ
controller_bytes s =
    input_kind s.input ∷ input_byte s.input ∷ from_bool s.output_full ∷ s.output ∷ s.command_byte ∷ awaited_byte s.awaited
    ∷ s.output_port ∷ from_bool s.break_mark ∷ from_bool s.parity ∷ from_bool s.last_to_64 ∷ s.resends ∷ []

abbrev pub controller_in : List ℕ → ControllerState
controller_in s = record {
  input = input_by (slice_index s 0) (slice_index s 1);
  output_full = truth_at 2 s;
  output = slice_index s 3;
  command_byte = slice_index s 4;
  awaited = awaited_by (slice_index s 5);
  output_port = slice_index s 6;
  break_mark = truth_at 7 s;
  parity = truth_at 8 s;
  last_to_64 = truth_at 9 s;
  resends = slice_index s 10;
}

-- 19 bytes more: the cycle in which the output buffer was filled (8 bytes), whether a reply is awaited, the bit that
-- noise turns round in the next frame (2 bytes), the level of the clock, the lights, whether INT 09h is masked; and of
-- INT 09h the bytes at 40:17 and 40:18, whether FA and FE have come, and the number typed under Alt
abbrev pub side_bytes : Outside → List ℕ
side_bytes o =
    to_le_bytes w64 o.desk.port.filled
    ++ from_bool o.desk.port.awaits ∷ from_bool (is_some o.desk.port.flip) ∷ byte_or_0 o.desk.port.flip
    ∷ from_bool o.clock ∷ o.shown ∷ from_bool o.desk.masked
    ∷ o.desk.bios.shifts ∷ o.desk.bios.downs ∷ from_bool o.desk.bios.ack ∷ from_bool o.desk.bios.resend
    ∷ o.desk.bios.number ∷ []

-- INT 09h by these 19 bytes, with these words
abbrev pub bios_in : List ℕ → List ℕ → State
bios_in s words = record {
  shifts = slice_index s 14;
  downs = slice_index s 15;
  ack = truth_at 16 s;
  resend = truth_at 17 s;
  number = slice_index s 18;
  words = words;
}

-- what is outside the processor, by the controller's bytes and these 19, with this link and these words
abbrev pub side_in : List ℕ → List ℕ → Link Wire → List ℕ → Outside
side_in c s link words = record {
  desk = record {
    port = record {
      core = controller_in c;
      filled = number_at 0 s;
      link = link;
      awaits = truth_at 8 s;
      flip = maybe_at 9 s;
    };
    masked = truth_at 13 s;
    bios = bios_in s words;
  };
  clock = truth_at 11 s;
  shown = slice_index s 12;
}
