-- Probes that look at each state of a run.
use Rattle.std.specs.Prelude.{ℕ, zero, suc, List, map, Some, None}
use Rattle.std.specs.declared.option.Option.{Option}
use Rattle.joint_run.specs.Joint.{Beside}
use Rattle.joint_run.specs.Run.{World}
use Rattle.joint_feed.specs.Stories.{Story, state_at}
use Rattle.run_probes.specs.Probes.{Watch, looked, sight_in}

-- each of them looks at the state that the step of this number led to, if there is one
abbrev pub looked_at : ℕ → Option (World Beside) → List Watch → List Watch
looked_at step None probes = probes
looked_at step (Some w) probes = map (looked step (sight_in w)) probes

-- the probes after one look at each of the states that the first k steps lead to, in their order
abbrev pub looks : Story → ℕ → List Watch → List Watch
looks s zero probes = probes
looks s (suc k) probes = looked_at (suc k) (state_at s (suc k)) (looks s k probes)
