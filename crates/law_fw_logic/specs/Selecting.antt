-- Which column port 1 selects, in each cycle of a tick.
use Rattle.std.specs.Prelude.{◌≡◌, ◌≤◌, ◌<◌, ℕ, ◌+◌, ◌-◌, ◌/◌, true, false, nat_lt, if◌then◌else◌, List, Some}
use Rattle.joint_run.specs.Run.{Board, World, joint_step}
use Rattle.joint_run.specs.Starts.{at_tick, calm}

-- the latch of port 1 by the offset from a tick's start: as it was up to the first column at offset 10, and from offset
-- 25 + 16 c on column c + 1, whose number is the low digit. So column 0 is selected six cycles before it is read at
-- offset 16, the others seven before 16 + 16 c, and from offset 201 on the digit is 12, which selects none
abbrev pub column_latch : ℕ → ℕ → ℕ
column_latch old o = if nat_lt o 10 then old else if nat_lt o 201 then 32 + (o - 9) / 16 else 44

-- from a tick start up to the next: in each cycle on the way, whatever step it is one of, the latch of port 1 is this
pub record Selects (d : Board) (tick_pc : ℕ) (bytes : List ℕ) (w : World d.State) (latch : ℕ → ℕ) : Type 0 where
  pub at : at_tick d tick_pc w ≡ true
  pub first : World d.State
  pub step : joint_step d bytes w ≡ Some first
  pub put : (c : ℕ) → w.cycle ≤ c → c < first.cycle → first.cpu.p1 ≡ latch c
  pub latches : (k c : ℕ) (one next : World d.State) → calm d tick_pc bytes k first ≡ Some one
      → at_tick d tick_pc one ≡ false → joint_step d bytes one ≡ Some next → one.cycle ≤ c → c < next.cycle
      → next.cpu.p1 ≡ latch c
