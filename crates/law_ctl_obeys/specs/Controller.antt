-- The keyboard controller keeps the rules of the link, whatever the PC does.
use Rattle.std.specs.Prelude.{◌≡◌, ◌<◌, ℕ, zero, suc, true, List, [], ◌∷◌}
use Rattle.board_terms.specs.declared.lines.Lines.{Lines}
use Rattle.ctl_link.specs.declared.link.Link.{Link}
use Rattle.ctl_link.specs.declared.link.Link.TheVariants.{Free, Hold, Ask, Request, Busy}
use Rattle.ctl_wire.specs.Cycles.{WireState, at_start}
use Rattle.ctl_wire.specs.Pulls.{Call, Flips, Happening, Reads, Writes, wire_cycle}
use Rattle.ctl_wire.specs.Wire.{drive}
use Rattle.ctl_wire.specs.Wires.{joined}
use Rattle.ctl_wire.specs.declared.wire.Wire.{Wire}
use Rattle.law_any_host.specs.Ears.{Eleventh}
use Rattle.law_any_host.specs.Rules.{Ends, IsRuleful}
use Rattle.law_any_host.specs.Wires.{AreWires, Wiring}

-- the controller before a cycle, by what each cycle brings
abbrev pub state_at : (ℕ → Happening) → ℕ → WireState
state_at happens zero = at_start
state_at happens (suc c) = wire_cycle c (happens c) (state_at happens c)

-- the PC writes bytes
abbrev pub WritesByte : Call → Type 0
WritesByte (Writes port byte) = byte < 256
WritesByte Reads = Unit {0}
WritesByte (Flips bit) = Unit {0}

abbrev pub AreBytes : List Call → Type 0
AreBytes [] = Unit {0}
AreBytes (call ∷ calls) = WritesByte call × AreBytes calls

-- in each cycle
abbrev pub WriteBytes : (ℕ → Happening) → Type 0
WriteBytes happens = (c : ℕ) → AreBytes (happens c).before × AreBytes (happens c).calls

-- the byte that it requests to send
abbrev pub asked_by : Link Wire → ℕ
asked_by Free = 0
asked_by (Hold since) = 0
asked_by (Ask byte since) = 0
asked_by (Request byte) = byte
asked_by (Busy wire) = 0

-- the wires between it and a keyboard that drives them so, each low if either side pulls it; it reads data in the cycle of
-- the fall
abbrev pub wiring_by : (ℕ → Lines) → (ℕ → Happening) → Wiring
wiring_by keyboard happens = record {
  keyboard = keyboard;
  host = λ c. drive (state_at happens c).port.link;
  pins = λ c. joined (keyboard c) (drive (state_at happens c).port.link);
  seen = λ c. joined (keyboard c) (drive (state_at happens c).port.link);
  reads = λ c. (joined (keyboard c) (drive (state_at happens c).port.link)).dat;
  wants = λ c. asked_by (state_at happens c).port.link;
}

-- whatever the keyboard drives, if it lets the clock go in cycle 0, and whatever bytes the PC writes, whatever it reads and
-- inverts by noise
abbrev pub ControllerLaw : Type 0
ControllerLaw =
    (keyboard : ℕ → Lines) (happens : ℕ → Happening)
    → ((c : ℕ) → (happens c).line ≡ joined (keyboard c) (drive (state_at happens c).port.link))
    → (keyboard 0).clk ≡ true → WriteBytes happens
    → AreWires (wiring_by keyboard happens) × IsRuleful (wiring_by keyboard happens)
    × Ends Eleventh (wiring_by keyboard happens)
