-- What is seen between two steps, when no step is made.
use Rattle.std.specs.Prelude.{◌≡◌}
use Rattle.ctl_core.specs.Controller.{ControllerState, status_of}
use Rattle.live_board.specs.declared.looks.Registers.{Registers}
use Rattle.live_board.specs.declared.parts.Parts.{Parts as Keyboard}

-- the controller's registers: the status that port 64h would read, the byte that port 60h would read, the command
-- byte, and the last byte for the output port
abbrev pub registers_of : ControllerState → Registers
registers_of s = record {
  status = status_of s;
  output = s.output;
  command_byte = s.command_byte;
  output_port = s.output_port;
}

-- a copy: the same machine, by the same edges that wait, with the same items kept and the same rises counted
pub record IsCopied (old new : Keyboard) : Type 0 where
  pub joint : new.joint ≡ old.joint
  pub edges : new.due.edges.items ≡ old.due.edges.items
  pub heard : new.heard ≡ old.heard
  pub rises : new.rises ≡ old.rises
