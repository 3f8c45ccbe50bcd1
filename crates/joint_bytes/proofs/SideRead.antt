-- What is outside the processor is read from its bytes.
use Rattle.std.proofs.Common.{◌≡◌, ◌<◌, ◌^◌, ℕ, List, Some, None, refl, ap, ◌∙◌}
use Rattle.std.specs.declared.option.Option.{Option}
use Rattle.std.specs.Int.{w64, to_le_bytes, from_le_bytes}
use Rattle.std.proofs.lemmas.Nat.{from_le_bytes-to_le_bytes_8}
use Rattle.ctl_core.specs.Controller.{ControllerState}
use Rattle.ctl_core.specs.declared.command.Parameter.{Parameter}
use Rattle.ctl_core.specs.declared.command.Parameter.TheVariants.{CommandByte, OutputPort}
use Rattle.ctl_core.specs.declared.port.Input.{Input}
use Rattle.ctl_core.specs.declared.port.Port.{Port}
use Rattle.ctl_core.specs.declared.port.Port.TheVariants.{P60, P64}
use Rattle.joint_run.specs.declared.outside.Outside.{Outside}
use Rattle.mcs48_bytes.proofs.Choices.{maybe_read, truth_read}
use Rattle.joint_bytes.specs.Sides.{
  awaited_by,
  awaited_byte,
  controller_bytes,
  controller_in,
  input_by,
  input_byte,
  input_kind,
  port_kind,
  side_bytes,
  side_in,
}

filled_read : (port : Port) (byte : ℕ) → input_by (port_kind port) byte ≡ Some (record { port = port; byte = byte })
filled_read P60 byte = refl
filled_read P64 byte = refl

input_read : (o : Option Input) → input_by (input_kind o) (input_byte o) ≡ o
input_read None = refl
input_read (Some i) = filled_read i.port i.byte

awaited_read : (o : Option Parameter) → awaited_by (awaited_byte o) ≡ o
awaited_read None = refl
awaited_read (Some CommandByte) = refl
awaited_read (Some OutputPort) = refl

-- the controller is read from its bytes
pub controller_read : (s : ControllerState) → controller_in (controller_bytes s) ≡ s
controller_read s =
    let input = input_read s.input in
    let full = truth_read s.output_full in
    let awaited = awaited_read s.awaited in
    let mark = truth_read s.break_mark in
    let parity = truth_read s.parity in
    let last = truth_read s.last_to_64 in
    λ i. record {
      input = input i;
      output_full = full i;
      output = s.output;
      command_byte = s.command_byte;
      awaited = awaited i;
      output_port = s.output_port;
      break_mark = mark i;
      parity = parity i;
      last_to_64 = last i;
      resends = s.resends;
    }

-- the controller is read from bytes that are equal to its own
pub controller_as : (x : List ℕ) (s : ControllerState) → x ≡ controller_bytes s → controller_in x ≡ s
controller_as x s e = ap controller_in e ∙ controller_read s

side_read : (o : Outside) → o.desk.port.filled < 2 ^ 64
    → side_in (controller_bytes o.desk.port.core) (side_bytes o) o.desk.port.link o.desk.bios.words ≡ o
side_read o near =
    let core = controller_read o.desk.port.core in
    let filled : from_le_bytes w64 (to_le_bytes w64 o.desk.port.filled) ≡ o.desk.port.filled =
    from_le_bytes-to_le_bytes_8 o.desk.port.filled near in
    let awaits = truth_read o.desk.port.awaits in
    let flip = maybe_read o.desk.port.flip in
    let masked = truth_read o.desk.masked in
    let ack = truth_read o.desk.bios.ack in
    let resend = truth_read o.desk.bios.resend in
    let clock = truth_read o.clock in
    λ i. record {
      desk = record {
        port = record {
          core = core i;
          filled = filled i;
          link = o.desk.port.link;
          awaits = awaits i;
          flip = flip i;
        };
        masked = masked i;
        bios = record {
          shifts = o.desk.bios.shifts;
          downs = o.desk.bios.downs;
          number = o.desk.bios.number;
          ack = ack i;
          resend = resend i;
          words = o.desk.bios.words;
        };
      };
      clock = clock i;
      shown = o.shown;
    }

-- what is outside the processor is read from its bytes
pub side_as : (x : List ℕ) (o : Outside) → x ≡ side_bytes o → o.desk.port.filled < 2 ^ 64
    → side_in (controller_bytes o.desk.port.core) x o.desk.port.link o.desk.bios.words ≡ o
side_as x o e near =
    ap (λ y. side_in (controller_bytes o.desk.port.core) y o.desk.port.link o.desk.bios.words) e ∙ side_read o near
