-- The keyboard at the keyboard controller of the PC, under any keys and whatever the PC does.
use Rattle.std.specs.Prelude.{◌≡◌, ◌<◌, ℕ, ◌+◌, ◌/◌, ◌%◌, true, false}
use Rattle.bits.specs.Bits.{bit}
use Rattle.board_terms.specs.declared.lines.Lines.{Lines}
use Rattle.ctl_wire.specs.Cycles.{WireState, at_start}
use Rattle.ctl_wire.specs.Pulls.{Happening, wire_cycle}
use Rattle.ctl_wire.specs.Wire.{drive}
use Rattle.ctl_wire.specs.Wires.{joined}
use Rattle.fw_compile.specs.Image.{image_of}
use Rattle.law_fw_logic.specs.Boards.{power_on}
use Rattle.joint_run.specs.Joint.{latch_of}
use Rattle.joint_run.specs.Run.{Board, World}
use Rattle.layout_reader.specs.Layouts.{HasEntry, IsKeyLayout, KeyLayout}
use Rattle.mcs48_core.specs.Cpu.{Cpu}
use Rattle.mcs48_ranges.specs.Sizes.{IsFine}
use Rattle.law_any_host.specs.AnyHost.{IsWiringOf, WorksAt}
use Rattle.law_any_host.specs.Ears.{Eleventh}
use Rattle.law_ctl_obeys.specs.Controller.{WriteBytes, state_at, wiring_by}

-- a board with the controller: each wire is low if either side pulls it. The rows of a column are any, by the cycle and
-- port 1; the PC makes any calls in each cycle
abbrev pub controller_board : (ℕ → ℕ → ℕ) → (ℕ → Happening) → Board
controller_board keys calls = record {
  State = WireState;
  pins = λ p1 p2 c s. record {
    p1 = 255;
    p2 = 255;
    bus = keys c p1;
    t0 = (joined (latch_of p2) (drive s.port.link)).clk;
    t1 = (joined (latch_of p2) (drive s.port.link)).dat;
    int_pin = true;
  };
  cycle = λ p2 c s.
      wire_cycle c
      (record {
        before = (calls c).before;
        line = joined (latch_of p2) (drive s.port.link);
        calls = (calls c).calls;
      })
      s;
}

abbrev pub at_power : (ℕ → ℕ → ℕ) → (ℕ → Happening) → Cpu → World WireState
at_power keys calls m = power_on (controller_board keys calls) m at_start

-- the rows show no key as down that the layout doesn't have: a row of a selected column is low at its places alone
abbrev pub AreKeysOf : KeyLayout → (ℕ → ℕ → ℕ) → Type 0
AreKeysOf layout keys =
    (c place : ℕ) → place < 96 → bit (place % 8) (keys c (32 + place / 8)) ≡ false → HasEntry layout place

-- the run from power-on at it: in each cycle the keyboard drives the wires by its latch, and the controller has the PC's
-- calls and the wires; and the keyboard works
pub record WorksThere (layout : KeyLayout) (keys : ℕ → ℕ → ℕ) (calls : ℕ → Happening) (m : Cpu) : Type 0 where
  pub keyboard : ℕ → Lines
  pub happens : ℕ → Happening
  pub called : (c : ℕ) → ((happens c).before ≡ (calls c).before) × ((happens c).calls ≡ (calls c).calls)
  pub lines : (c : ℕ) → (happens c).line ≡ joined (keyboard c) (drive (state_at happens c).port.link)
  pub wiring : IsWiringOf (controller_board keys calls) (image_of layout) (at_power keys calls m) (wiring_by keyboard happens)
  pub works : WorksAt Eleventh layout (controller_board keys calls) (at_power keys calls m) (wiring_by keyboard happens)

-- for every layout, any rows that show no key as down that the layout doesn't have, any number at once, and any calls that
-- write bytes, whatever a part held when it was switched on
abbrev pub AtControllerLaw : Type 0
AtControllerLaw =
    (layout : KeyLayout) → IsKeyLayout layout → (keys : ℕ → ℕ → ℕ) → ((c p1 : ℕ) → keys c p1 < 256) → AreKeysOf layout keys
    → (calls : ℕ → Happening) → WriteBytes calls → (m : Cpu) → IsFine m → WorksThere layout keys calls m
