-- How long the controller pulls the clock: cycles of the controller, whatever is on the wires and whatever the host
-- does.
use Rattle.std.specs.Prelude.{◌≡◌, ◌<◌, ℕ, Bool, true, false, List, [], ◌∷◌, is_some, if◌then◌else◌}
use Rattle.std.proofs.Common.{zero, suc}
use Rattle.board_terms.specs.declared.lines.Lines.{Lines}
use Rattle.ctl_core.specs.Controller.{written, emptied}
use Rattle.ctl_core.specs.declared.port.Port.{Port as HostPort}
use Rattle.ctl_wire.specs.Cycles.{WireState, looked, with_core, with_flip, settles}
use Rattle.ctl_wire.specs.Wire.{drive}

-- a call: a byte for a port, a read of port 60h, or noise that turns a bit round
pub data Call : Type 0 where
  Writes : HostPort → ℕ → Call
  Reads : Call
  Flips : ℕ → Call

-- the controller after a call; a byte is refused while the input buffer is full
abbrev pub called : Call → WireState → WireState
called (Writes port byte) w =
    with_core (if is_some w.port.core.input then w.port.core else written port byte w.port.core) w
called Reads w = with_core (emptied w.port.core) w
called (Flips bit) w = with_flip bit w

-- and after calls, one after another
abbrev pub acts : List Call → WireState → WireState
acts [] w = w
acts (call ∷ calls) w = acts calls (called call w)

-- what a cycle brings: the host's calls before its look, the levels of the wires at the look, and the host's calls
-- after it
pub record Happening : Type 0 where
  pub before : List Call
  pub line : Lines
  pub calls : List Call

-- a cycle: the look, the host, the settling
unfoldable pub wire_cycle : ℕ → Happening → WireState → WireState
wire_cycle now h w = settles now (acts h.calls (looked now h.line (acts h.before w)))

-- cycles, one after another
abbrev pub wire_cycles : (ℕ → Happening) → ℕ → ℕ → WireState → WireState
wire_cycles happens zero now w = w
wire_cycles happens (suc n) now w = wire_cycles happens n (suc now) (wire_cycle now (happens now) w)

-- whether the controller leaves the clock high
abbrev pub leaves_clock : WireState → Bool
leaves_clock w = (drive w.port.link).clk

-- a pull that a cycle begins lasts 64 cycles at least: it is there after this one and after each of the 63 after it
abbrev pub PullsLast : Type 0
PullsLast =
    (happens : ℕ → Happening) (now n : ℕ) (w : WireState) → leaves_clock w ≡ true
    → leaves_clock (wire_cycle now (happens now) w) ≡ false → n < 64
    → leaves_clock (wire_cycles happens n (suc now) (wire_cycle now (happens now) w)) ≡ false
