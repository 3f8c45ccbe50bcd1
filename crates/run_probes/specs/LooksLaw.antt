-- What probes count that look at each state of a run: the number of the steps whose state meets them, and the first.
use Rattle.std.specs.Prelude.{◌≡◌, ℕ, ◌-◌, ◌^◌, min, List, length, map, slice_get, None}
use Rattle.joint_feed.specs.Stories.{Story}
use Rattle.run_probes.specs.Counts.{met_between, counted_between}
use Rattle.run_probes.specs.Looks.{looks}
use Rattle.run_probes.specs.Probes.{Watch}

-- after a look at each of the states that the first n steps lead to
abbrev pub LooksCount : Type 0
LooksCount = (s : Story) (n : ℕ) (probes : List Watch) → looks s n probes ≡ map (counted_between s 0 n) probes

-- what a probe that had counted nothing reports: how many of the steps between meet it, and the least of them
pub record IsTally (s : Story) (k n : ℕ) (old new : Watch) : Type 0 where
  pub kind : new.kind ≡ old.kind
  pub arms : new.counted.arms ≡ old.counted.arms
  pub count : new.counted.count ≡ min (length (met_between s k n old)) (2 ^ 64 - 1)
  pub first : new.counted.first ≡ slice_get (met_between s k n old) 0

-- such a probe reports so
abbrev pub CountsFromNone : Type 0
CountsFromNone = (s : Story) (k n : ℕ) (watch : Watch)
    → watch.counted.count ≡ 0 → watch.counted.first ≡ None → IsTally s k n watch (counted_between s k n watch)
