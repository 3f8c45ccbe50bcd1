-- The controller's parts, each by itself.
use Rattle.ctl_core.specs.Controller.{ControllerState}
use Rattle.ctl_core.specs.declared.controller.Buffers.{Buffers}

abbrev pub parts_of : ControllerState → Buffers
parts_of s = record {
  input = s.input;
  output_full = s.output_full;
  output = s.output;
  command_byte = s.command_byte;
  awaited = s.awaited;
  output_port = s.output_port;
  break_mark = s.break_mark;
  parity = s.parity;
  last_to_64 = s.last_to_64;
  resends = s.resends;
}

-- the controller that has these parts
abbrev pub controller_of : Buffers → ControllerState
controller_of p = record {
  input = p.input;
  output_full = p.output_full;
  output = p.output;
  command_byte = p.command_byte;
  awaited = p.awaited;
  output_port = p.output_port;
  break_mark = p.break_mark;
  parity = p.parity;
  last_to_64 = p.last_to_64;
  resends = p.resends;
}
