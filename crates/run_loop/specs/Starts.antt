-- The tick starts of a run.
use Rattle.std.specs.Prelude.{ℕ, zero, suc, ◌-◌, List, [], ◌∷◌, ◌++◌, Some, None, if◌then◌else◌}
use Rattle.std.specs.declared.option.Option.{Option}
use Rattle.joint_feed.specs.Stories.{Story, state_at, starts_tick}
use Rattle.joint_run.specs.Joint.{Beside}
use Rattle.joint_run.specs.Run.{World}

-- the stamp of the tick that starts at a state, if one does
abbrev pub start_stamp : Story → Option (World Beside) → List ℕ
start_stamp s None = []
start_stamp s (Some w) = if starts_tick s w then (w.cycle - 4096) ∷ [] else []

-- the stamps of the ticks that start at the first k states
abbrev pub starts_among : Story → ℕ → List ℕ
starts_among s zero = []
starts_among s (suc k) = starts_among s k ++ start_stamp s (state_at s k)
