-- What the tokens so far said, and the samples of the two wires.
use Rattle.std.specs.Prelude.{ℕ, Bool, true, not, ◌||◌, Option, Some, None, if◌then◌else◌}
use Rattle.board_terms.specs.declared.lines.Lines.{Lines}
use Rattle.capture_vcd.specs.declared.part.Part.{Part}
use Rattle.capture_vcd.specs.declared.part.Part.TheVariants.{Outside}
use Rattle.capture_vcd.specs.declared.state.Sample.{Sample}
use Rattle.capture_vcd.specs.declared.state.State.{State}
use Rattle.capture_vcd.specs.declared.state.Step.{Step}

-- nobody pulls the wires
abbrev pub both_high : Lines
both_high = record { clk = true; dat = true }

-- before the first token both wires are high
abbrev pub at_start : State
at_start =
    record { part = Outside; unit = None; clk = None; dat = None; time = 0; lines = both_high; given = both_high }

-- a wire turns
abbrev pub turns : Bool → Bool → Bool
turns before now = if before then not now else now

abbrev pub differ : Lines → Lines → Bool
differ before now = turns before.clk now.clk || turns before.dat now.dat

-- the sample of a time is given once all of its changes are known, unless its levels are those of the last one
abbrev pub due : State → Option Sample
due s = if differ s.given s.lines then Some (record { time = s.time; lines = s.lines }) else None

-- a token that completes no sample
abbrev pub without : State → Step
without s = record { state = s; sample = None }

-- one that completes the sample of its time, if there is one: after it another time begins, or nothing
abbrev pub with_sample : Part → ℕ → State → Step
with_sample part time s = record {
  state = record s { part = part; time = time; given = s.lines };
  sample = due s;
}
