-- What a decoder has heard of the first steps of a run.
use Rattle.std.specs.Prelude.{◌≡◌, ℕ, Some}
use Rattle.run_probes.specs.Transfers.{Ear, wires_at}
use Rattle.joint_feed.specs.Stories.{Story}
use Rattle.run_loop.specs.Gliding.{lines_at}
use Rattle.law_wires_heard.specs.Hearing.{heard_to}

-- it has heard all samples, and the wires are as they were at the last of them
pub record HasHeard (s : Story) (k : ℕ) (ear : Ear) : Type 0 where
  pub all : ear ≡ heard_to s k
  pub levels : lines_at s k ≡ Some (wires_at ear.last)
