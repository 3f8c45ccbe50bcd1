-- Counts that never fall: of faults, of calls, of puts.
use Rattle.std.specs.Prelude.{ℕ, ◌+◌, ◌-◌, ◌^◌, ◌≤◌, min}

-- a count that rises; it is a u64, and stays at its greatest value
abbrev pub one_more : ℕ → ℕ
one_more count = min (count + 1) (2 ^ 64 - 1)

-- the count rose in the call: it is greater after the call than before it, or it is at the greatest u64
abbrev pub Rose : ℕ → ℕ → Type 0
Rose before after = one_more before ≤ after
