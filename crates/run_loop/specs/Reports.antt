-- What is reported of a run.
use Rattle.std.specs.Prelude.{ℕ, Bool, List}
use Rattle.io_edge.specs.Said.{IsBrokenOff, IsSaid, Shown}
use Rattle.joint_feed.specs.Stories.{Story}
use Rattle.run_loop.specs.declared.ending.Ending.{Ending}
use Rattle.run_loop.specs.Gliding.{IsSilent}

-- all is reported of the first steps up to the n-th: it is of the first k, and nothing is to be reported of those after them
pub record IsReportedTo (e : Ending) (wires : Bool) (s : Story) (reported : ℕ → Type 0) (n : ℕ) : Type 0 where
  pub steps : ℕ
  pub reported_so : reported steps
  pub quiet : IsSilent e wires s steps n

-- a sink has the whole text of a run's first steps, and after it the next step's, broken off
pub record IsBrokenAfter (before after : Shown) (text next : List ℕ) : Type 0 where
  pub between : Shown
  pub said : IsSaid before between text
  pub broken : IsBrokenOff between after next
