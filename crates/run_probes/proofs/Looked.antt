-- What probes have counted after looks.
use Rattle.std.proofs.Common.{◌≡◌, ℕ, zero, suc, List, map, Some, None, refl, ap, sym, ◌∙◌, arith}
use Rattle.std.specs.declared.option.Option.{Option}
use Rattle.std.proofs.lemmas.Simd.{map-map}
use Rattle.joint_run.specs.Joint.{Beside}
use Rattle.joint_run.specs.Run.{World}
use Rattle.joint_feed.specs.Stories.{state_at}
use Rattle.run_probes.specs.Counts.{counted_between}
use Rattle.run_probes.specs.Looks.{looked_at}
use Rattle.run_probes.specs.LooksLaw.{LooksCount}
use Rattle.run_probes.specs.Probes.{Watch}
use Rattle.run_probes.proofs.Counting.{counted_both, counted_nowhere, counted_once, looked_if, map_as, map_same}

looked_each : (step : ℕ) (o : Option (World Beside)) (probes : List Watch) → looked_at step o probes ≡ map (looked_if step o) probes
looked_each step None probes = map_same (looked_if step None) (λ w. refl) probes
looked_each step (Some v) probes = refl

-- after looks at each state of the first n steps each probe has counted through these steps
pub looks_count : LooksCount
looks_count s zero probes = map_same (counted_between s 0 0) (counted_nowhere s 0) probes
looks_count s (suc n) probes =
    ap (looked_at (suc n) (state_at s (suc n))) (looks_count s n probes)
    ∙ looked_each (suc n) (state_at s (suc n)) (map (counted_between s 0 n) probes)
    ∙ map-map (looked_if (suc n) (state_at s (suc n))) (counted_between s 0 n) probes
    ∙ map_as _ _ (λ w. sym (counted_both s 0 n (suc n) (omega arith) (omega arith) w ∙ counted_once s n (counted_between s 0 n w))) probes
