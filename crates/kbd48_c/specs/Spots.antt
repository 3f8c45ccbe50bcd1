-- Where a processor is stuck, as C sees it.
use Rattle.live_board.specs.declared.ran.RunEnd.{RunEnd}
use Rattle.live_board.specs.declared.ran.RunEnd.TheVariants as ends
use Rattle.kbd48_c.specs.declared.going.Spot.{Spot}

abbrev pub spot_after : RunEnd → Spot → Spot
spot_after ends.Passed s = s
spot_after (ends.Met what) s = s
spot_after ends.LastCycle s = s
spot_after (ends.Stuck place) s = record { counter = place.pc; byte = place.byte }
