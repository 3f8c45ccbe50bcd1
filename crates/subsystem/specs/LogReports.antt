-- What is reported of the first steps of a run, as the loop keeps it.
use Rattle.std.specs.Prelude.{◌≡◌, ◌≤◌, ℕ, suc, ◌*◌, length, vec_capacity}
use Rattle.joint_feed.specs.Stories.{Story}
use Rattle.run_loop.specs.declared.ending.Ending.{Ending}
use Rattle.run_loop.specs.declared.ending.Ending.TheVariants.{TickStart}
use Rattle.run_loop.specs.Starts.{starts_among}
use Rattle.subsystem.specs.declared.starts.Starts.{Starts}
use Rattle.subsystem.specs.declared.reporting.Putting.{Putting}
use Rattle.subsystem.specs.Counts.{none_counted, with_lines}
use Rattle.subsystem.specs.Progress.{lines_so_far, most_starts}

-- in a run that ends at a tick start the starts among the states up to the one after step k are noted
pub record HasNoted (e : Ending) (s : Story) (k : ℕ) (it : Starts) : Type 0 where
  pub ending : e ≡ TickStart
  pub starts : it.stamps.items ≡ starts_among s (suc k)

-- there is room for each start of the run, and what was said is counted, no more than sixteen items a step
pub record HasPut (e : Ending) (s : Story) (k : ℕ) (it : Putting) : Type 0 where
  pub noted : HasNoted e s k it.starts
  pub room : most_starts s.stop ≤ vec_capacity it.starts.stamps
  pub counts : it.counts ≡ with_lines none_counted (lines_so_far s k)
  pub short : length (lines_so_far s k) ≤ 16 * k
