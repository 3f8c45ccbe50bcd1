-- The run so far, as the loop keeps it.
use Rattle.std.specs.Prelude.{◌≡◌, ◌/◌, ℕ, ◌+◌, ◌-◌, List, [], length, map, vec_capacity}
use Rattle.board_terms.specs.Cadence.{begun, listed}
use Rattle.host_turn.specs.declared.stamped.Stamped.{Stamped}
use Rattle.joint_feed.specs.Stories.{Story}
use Rattle.model_link.specs.declared.line.LogLine.{LogLine}
use Rattle.mcs48_core.specs.Reset.{reset_cpu}
use Rattle.run_loop.specs.declared.ending.Ending.TheVariants.{TickStart}
use Rattle.run_loop.specs.Gliding.{IsTimely}
use Rattle.run_loop.specs.Running.{log_at}
use Rattle.run_loop.specs.Starts.{starts_among}
use Rattle.subsystem.specs.declared.starts.Starts.{Starts}

-- an item with the number of starts at or before its cycle, less one
abbrev pub line_so_far : List ℕ → Stamped → LogLine
line_so_far starts s = record { tick = begun (listed starts) s.cycle (length starts) - 1; item = s.item }

-- what the first k steps say, by these starts
abbrev pub lines_to : Story → List ℕ → ℕ → List LogLine
lines_to s starts k = map (line_so_far starts) (log_at s k)

-- by the starts among the states before the last of them
abbrev pub lines_so_far : Story → ℕ → List LogLine
lines_so_far s k = lines_to s (starts_among s k) k

-- how many ticks start at most up to the first start at or after an end stamp: no start comes before its multiple of 2,048
abbrev pub most_starts : ℕ → ℕ
most_starts end = (end + 2047) / 2048 + 1

-- a run that hasn't begun, with cleared memory, of a program that keeps its time; there is room for all its starts, and for no
-- more
pub record IsPrepared (s : Story) (starts : Starts) : Type 0 where
  pub cleared : s.held ≡ reset_cpu
  pub timely : IsTimely TickStart s
  pub none : starts.stamps.items ≡ []
  pub room : vec_capacity starts.stamps ≡ most_starts s.stop
