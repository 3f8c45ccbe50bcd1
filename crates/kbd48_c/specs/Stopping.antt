-- A run that stops for what C asks for.
use Rattle.std.specs.Prelude.{◌≡◌, ℕ, ℤ, ◌+◌, ◌*◌, if◌then◌else◌, Some, None}
use Rattle.std.specs.Int.{from_bool}
use Rattle.bits.specs.Bits.{bit}
use Rattle.live_board.specs.declared.parts.Parts.{Parts as Keyboard}
use Rattle.live_board.specs.declared.ran.RunEnd.{RunEnd}
use Rattle.live_board.specs.declared.ran.RunEnd.TheVariants as ends
use Rattle.live_board.specs.declared.stops.Met.{Met}
use Rattle.live_board.specs.declared.stops.Stops.{Stops}
use Rattle.kbd48_c.specs.Exports.{HasGone}
use Rattle.kbd48_c.specs.Statuses.{done, over, stuck}
use Rattle.kbd48_c.specs.declared.going.Spot.{Spot}

-- what a mask asks for: 1 a rise of the line, 2 something said, 4 a wire that changed, 8 a place
abbrev pub stops_of : ℕ → ℕ → Stops
stops_of mask at = record {
  rise = bit 0 mask;
  item = bit 1 mask;
  wires = bit 2 mask;
  counter = if bit 3 mask then Some at else None;
}

-- what a step did, in the same numbers
abbrev pub mask_of : Met → ℕ
mask_of m = from_bool m.rise + 2 * from_bool m.item + 4 * from_bool m.wires + 8 * from_bool m.counter

-- the status of such a run
abbrev pub stop_status : RunEnd → ℤ
stop_status ends.Passed = done
stop_status (ends.Met what) = done
stop_status ends.LastCycle = over
stop_status (ends.Stuck place) = stuck

abbrev pub met_after : RunEnd → ℕ
met_after ends.Passed = 0
met_after (ends.Met what) = mask_of what
met_after ends.LastCycle = 0
met_after (ends.Stuck place) = 0

-- the run, and what ended it
abbrev pub HasRunTo : Stops → ℕ → ℕ → ℕ → ℕ → Spot → Spot → Keyboard → ℤ → Keyboard → Type 0
HasRunTo stops cycles steps met passed before spot k status after =
    (end : RunEnd) × (status ≡ stop_status end) × (met ≡ met_after end)
    × HasGone stops cycles (Some steps) end passed before spot k after
