-- Runs of which it is known what the keyboard drives in each cycle.
use Rattle.std.specs.Prelude.{◌≡◌, ◌≤◌, ◌<◌, ℕ, true, List, Some}
use Rattle.joint_run.specs.Run.{Board, World, joint_step}
use Rattle.joint_run.specs.Starts.{at_tick, calm}

-- the run comes from a state to one of a set, and meets no tick start before it; and in each cycle on the way, whatever
-- step it is one of, the latch of port 2 is this
pub record Drives (d : Board) (tick : ℕ) (bytes : List ℕ) (w : World d.State) (latch : ℕ → ℕ)
    (Q : World d.State → Type 0) : Type 0 where
  pub steps : ℕ
  pub end : World d.State
  pub run : calm d tick bytes steps w ≡ Some end
  pub latches : (k c : ℕ) (one next : World d.State) → k < steps → calm d tick bytes k w ≡ Some one
      → joint_step d bytes one ≡ Some next → one.cycle ≤ c → c < next.cycle → next.cpu.p2 ≡ latch c
  pub goal : Q end

-- the run comes from a tick start, whose step is the first, to one of a set, and the latch is this on the whole way
pub record DrivesTick (d : Board) (tick : ℕ) (bytes : List ℕ) (w : World d.State) (latch : ℕ → ℕ)
    (Q : World d.State → Type 0) : Type 0 where
  pub at : at_tick d tick w ≡ true
  pub first : World d.State
  pub step : joint_step d bytes w ≡ Some first
  pub put : (c : ℕ) → w.cycle ≤ c → c < first.cycle → first.cpu.p2 ≡ latch c
  pub rest : Drives d tick bytes first latch Q
