-- Noise that is pending.
use Rattle.std.specs.Prelude.{◌≡◌, ℕ, Bool, List, Some, None}
use Rattle.std.specs.declared.option.Option.{Option}
use Rattle.board_terms.specs.declared.event.HostEvent.{HostEvent}
use Rattle.board_terms.specs.declared.lines.Lines.{Lines}
use Rattle.board_terms.specs.Flips.{IsDataOrParity, AreFlips}
use Rattle.board_terms.specs.Frame.{byte_of}
use Rattle.ctl_wire.specs.Wire.{turned}
use Rattle.model_controller.specs.ByteTime.{arriving}
use Rattle.ctl_wire.specs.Wires.{Pc}
use Rattle.law_wires_agree.specs.Cells.{bits_to}
use Rattle.law_wires_agree.specs.Cycles.{board_cycles}

-- the bit that noise turns round, if it does, is a data bit or the parity
abbrev pub IsFlip : Option ℕ → Type 0
IsFlip None = Unit {0}
IsFlip (Some bit) = IsDataOrParity bit

-- a right frame with one such bit turned round is wrong; without noise it brings its byte
abbrev pub FlipsSeen : Type 0
FlipsSeen =
    (bits : ℕ → Bool) (byte : ℕ) (flip : Option ℕ) → byte_of (bits_to bits 11) ≡ Some byte → IsFlip flip
    → byte_of (turned flip (bits_to bits 11)) ≡ arriving flip byte

-- what is pending is such a bit in every cycle, if the events turn round no other
abbrev pub FlipsStay : Type 0
FlipsStay =
    (events : List HostEvent) (latch : ℕ → Lines) (n now : ℕ) (b : Pc) → AreFlips events → IsFlip b.side.port.flip
    → IsFlip (board_cycles events latch n now b).side.port.flip
