-- What probes have counted after a walk and a hunt.
use Rattle.std.proofs.Common.{cond, ◌≡◌, ℕ, zero, suc, Bool, true, false, map, Some, None, refl, ap, sym, ◌∙◌, arith}
use Rattle.std.specs.declared.option.Option.{Option}
use Rattle.std.proofs.lemmas.Simd.{map-map}
use Rattle.joint_run.specs.Joint.{Beside}
use Rattle.joint_run.specs.Run.{World}
use Rattle.joint_feed.specs.Stories.{Story, state_at}
use Rattle.run_probes.specs.Counts.{counted_between}
use Rattle.debugger.specs.CountLaw.{IsCounted, WalkCounts, HuntCounts}
use Rattle.run_probes.specs.Probes.{first_met, sight_in}
use Rattle.debugger.specs.Sessions.{Debug, Debuggee, Hunted, session_is_over, next_from, next_state, stepped_to, walk, hunt}
use Rattle.run_probes.proofs.Counting.{counted_both, counted_nowhere, counted_once, looked_if, map_as, map_same}

-- nothing is done
pub counted_still : (s : Story) (d : Debug) → IsCounted s d d
counted_still s d =
    record {
      later = omega arith;
      probes = map_same (counted_between s d.steps d.steps) (counted_nowhere s d.steps) d.probes;
    }

-- one time after another
pub counted_on : (s : Story) (old mid new : Debug) → IsCounted s old mid → IsCounted s mid new → IsCounted s old new
counted_on s old mid new a b = record {
  later = omega (arith, a.later, b.later);
  probes =
      b.probes ∙ ap (map (counted_between s mid.steps new.steps)) a.probes
      ∙ map-map (counted_between s mid.steps new.steps) (counted_between s old.steps mid.steps) old.probes
      ∙ map_as _ _ (λ w. sym (counted_both s old.steps mid.steps new.steps a.later b.later w)) old.probes;
}

next_by : (s : Story) (k : ℕ) (w : World Beside) (b : Bool) → cond b None (state_at s (suc k)) ≡ Some w → state_at s (suc k) ≡ Some w
next_by s k w true next = absurd (cc next)
next_by s k w false next = next

-- the next state of a session is the run's
next_is : (s : Debuggee) (k : ℕ) (o : Option (World Beside)) (w : World Beside)
    → next_from s k o ≡ Some w → state_at s.story (suc k) ≡ Some w
next_is s k None w next = absurd (cc next)
next_is s k (Some v) w next = next_by s.story k w (session_is_over s v) next

-- a step of a session
pub counted_step : (s : Debuggee) (d : Debug) (w : World Beside) → next_state s d.steps ≡ Some w → IsCounted s.story d (stepped_to w d)
counted_step s d w next =
    let there : state_at s.story (suc d.steps) ≡ Some w = next_is s d.steps (state_at s.story d.steps) w next in
    record {
      later = omega arith;
      probes = map_as
          _ _ (λ x. sym (counted_once s.story d.steps x ∙ ap (λ (o : Option (World Beside)). looked_if (suc d.steps) o x) there)) d.probes;
    }

walk_from : (s : Debuggee) (n : ℕ) (d : Debug) (o : Option (World Beside))
    → next_state s d.steps ≡ o → ((w : World Beside) → IsCounted s.story (stepped_to w d) (walk s n (stepped_to w d)))
    → IsCounted s.story d (elim o [ None ↦ d | Some w ↦ walk s n (stepped_to w d) ])
walk_from s n d None next more = counted_still s.story d
walk_from s n d (Some w) next more = counted_on s.story d (stepped_to w d) (walk s n (stepped_to w d)) (counted_step s d w next) (more w)

-- after a line `step` each probe has counted just the steps that were made
pub walk_counts : WalkCounts
walk_counts s zero d = counted_still s.story d
walk_counts s (suc n) d = walk_from s n d (next_state s d.steps) refl (λ w. walk_counts s n (stepped_to w d))

hit_or_on : (s : Debuggee) (n : ℕ) (d : Debug) (w : World Beside) (hit : Option ℕ) → IsCounted s.story d (stepped_to w d)
    → IsCounted s.story (stepped_to w d) (hunt s n (stepped_to w d)).debug
    → IsCounted s.story d (elim hit as (λ x. Hunted) [
      | Some probe ↦ record { debug = stepped_to w d; hit = Some probe }
      | None ↦ hunt s n (stepped_to w d)
    ]).debug
hit_or_on s n d w (Some probe) one more = one
hit_or_on s n d w None one more = counted_on s.story d (stepped_to w d) (hunt s n (stepped_to w d)).debug one more

hunt_from : (s : Debuggee) (n : ℕ) (d : Debug) (o : Option (World Beside))
    → next_state s d.steps ≡ o → ((w : World Beside) → IsCounted s.story (stepped_to w d) (hunt s n (stepped_to w d)).debug)
    → IsCounted s.story d (elim o as (λ x. Hunted) [
      | None ↦ record { debug = d; hit = None }
      | Some w ↦ elim (first_met 0 (sight_in w) d.probes) as (λ x. Hunted) [
        | Some probe ↦ record { debug = stepped_to w d; hit = Some probe }
        | None ↦ hunt s n (stepped_to w d)
      ]
    ]).debug
hunt_from s n d None next more = counted_still s.story d
hunt_from s n d (Some w) next more = hit_or_on s n d w (first_met 0 (sight_in w) d.probes) (counted_step s d w next) (more w)

-- after a line `go` each probe has counted just the steps that were made
pub hunt_counts : HuntCounts
hunt_counts s zero d = counted_still s.story d
hunt_counts s (suc n) d = hunt_from s n d (next_state s d.steps) refl (λ w. hunt_counts s n (stepped_to w d))
