-- The starts of ticks: their cadence, the last of a run, and the tick of what is said in a cycle.
use Rattle.std.specs.Prelude.{ℕ, ◌+◌, ◌-◌, ◌*◌, ◌≤◌, ◌<◌, nat_le, List, slice_index, if◌then◌else◌}
use Rattle.std.proofs.Common.{zero, suc}

-- start n, as a stamp, may be this: five cycles past its multiple of 2,048 at most
pub record IsNear (n start : ℕ) : Type 0 where
  pub least : 2048 * n ≤ start
  pub most : start ≤ 2048 * n + 5

-- each start is near its multiple
abbrev pub KeepsCadence : (ℕ → ℕ) → Type 0
KeepsCadence starts = (n : ℕ) → IsNear n (starts n)

-- the starts up to one are near theirs
abbrev pub KeepsCadenceTo : (ℕ → ℕ) → ℕ → Type 0
KeepsCadenceTo starts last = (n : ℕ) → n ≤ last → IsNear n (starts n)

-- the starts of a list
abbrev pub listed : List ℕ → ℕ → ℕ
listed starts n = slice_index starts n

-- the run ends at start n, the first at or after the end stamp
pub record IsLast (starts : ℕ → ℕ) (stop n : ℕ) : Type 0 where
  pub reaches : stop ≤ starts n
  pub before : (j : ℕ) → j < n → starts j < stop

-- how many of the first n starts are at or before a cycle; a start's cycle is 4,096 past its stamp
abbrev pub begun : (ℕ → ℕ) → ℕ → ℕ → ℕ
begun starts cycle zero = 0
begun starts cycle (suc n) = begun starts cycle n + (if nat_le (4096 + starts n) cycle then 1 else 0)

-- the tick of what is said in a cycle, if starts 0 to n are known: the number of starts at or before it, less one,
-- or 0 if there is none
abbrev pub tick_of : (ℕ → ℕ) → ℕ → ℕ → ℕ
tick_of starts n cycle = begun starts cycle (suc n) - 1
