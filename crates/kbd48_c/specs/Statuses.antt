-- The statuses, as numbers.
use Rattle.std.specs.Prelude.{ℤ, pos}
use Rattle.live_board.specs.declared.ran.RunEnd.{RunEnd}
use Rattle.live_board.specs.declared.ran.RunEnd.TheVariants as ends
use Rattle.live_board.specs.declared.refused.Refused.{Refused}
use Rattle.live_board.specs.declared.refused.Refused.TheVariants as refusals

abbrev pub done : ℤ
done = pos 0

abbrev pub not_open : ℤ
not_open = pos 1

abbrev pub no_memory : ℤ
no_memory = pos 2

abbrev pub bad_text : ℤ
bad_text = pos 3

abbrev pub too_long : ℤ
too_long = pos 4

abbrev pub no_such_place : ℤ
no_such_place = pos 5

abbrev pub no_such_port : ℤ
no_such_port = pos 6

abbrev pub full : ℤ
full = pos 7

abbrev pub stuck : ℤ
stuck = pos 8

abbrev pub early : ℤ
early = pos 9

abbrev pub over : ℤ
over = pos 10

abbrev pub no_word : ℤ
no_word = pos 11

abbrev pub rose : ℤ
rose = pos 12

abbrev pub no_such_cell : ℤ
no_such_cell = pos 13

abbrev pub nothing_said : ℤ
nothing_said = pos 14

abbrev pub lost_some : ℤ
lost_some = pos 15

-- why a call did nothing
abbrev pub refused_status : Refused → ℤ
refused_status refusals.Early = early
refused_status refusals.LastCycle = over
refused_status refusals.Full = full
refused_status (refusals.Stuck place) = stuck

-- why a run ended that stops for a rise of the line alone
abbrev pub run_status : RunEnd → ℤ
run_status ends.Passed = done
run_status (ends.Met what) = rose
run_status ends.LastCycle = over
run_status (ends.Stuck place) = stuck
