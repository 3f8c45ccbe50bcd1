-- What ties the joint run to the model at a tick start.
use Rattle.std.specs.Prelude.{◌≡◌, ℕ, List, false}
use Rattle.ctl_link.specs.Link.{is_busy}
use Rattle.law_fw_keys.proofs.Kept.{Sound}
use Rattle.law_fw_keys.proofs.Begun.{IsAnyStart}
use Rattle.law_fw_keys.specs.Frameless.{IsRepeating, shown_by, layers_by, read_by}
use Rattle.law_fw_keys.specs.Healing.{is_fn_held}
use Rattle.law_fw_link.proofs.Wired.{IsReleased}
use Rattle.joint_run.specs.Joint.{Beside, lights_of}
use Rattle.joint_run.specs.Run.{World}
use Rattle.model_keyboard.specs.Codes.{Keys}
use Rattle.model_link.specs.Expected.{Whole}
use Rattle.model_link.specs.Machine.{LayeredKeyboard}
use Rattle.law_wires_agree.specs.Flips.{IsFlip}
use Rattle.law_wires_agree.specs.Without.{seen_in_bytes}

-- memory shows the model's keyboard, its layers and its switches, the Fn key is down there if it is held, what repeats is pressed, the
-- PC's side is the model's, no byte is under way, what noise is to turn round is a data bit or the parity, and the latch of port 2 pulls no wire and shows
-- the lights that were shown last
pub record Ties (bytes : List ℕ) (keys : Keys) (w : World Beside) (m : Whole LayeredKeyboard) : Type 0 where
  pub started : IsAnyStart w.cpu
  pub keyboard : shown_by w.cpu.ram ≡ m.keys.keyboard
  pub layers : layers_by w.cpu.ram ≡ m.keys.layers
  pub read : read_by bytes w.cpu.ram ≡ m.keys.switches.read
  pub settled : m.keys.keyboard.held ≡ m.keys.switches.settled
  pub fn : m.keys.layers.fn_down ≡ is_fn_held bytes m.keys.keyboard
  pub repeating : IsRepeating bytes w.cpu.ram
  pub sound : Sound keys m.keys.layers m.keys.keyboard
  pub side : seen_in_bytes w.board.pc.side ≡ m.side
  pub idle : is_busy w.board.pc.side.port.link ≡ false
  pub flip : IsFlip w.board.pc.side.port.flip
  pub shown : w.board.shown ≡ m.shown
  pub lit : lights_of w.cpu.p2 ≡ w.board.shown
  pub released : IsReleased w.cpu.p2
