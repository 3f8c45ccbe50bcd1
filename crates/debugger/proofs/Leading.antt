-- Steps of a session lead from one time to another; walks and hunts go on from there.
use Rattle.std.proofs.Common.{◌≡◌, ◌≤◌, ℕ, zero, suc, ◌+◌, ◌-◌, Bool, true, false, Some, None, is_some, refl, ap, sym, ◌∙◌, arith}
use Rattle.std.specs.declared.option.Option.{Option}
use Rattle.joint_run.specs.Joint.{Beside}
use Rattle.joint_run.specs.Run.{World}
use Rattle.run_probes.specs.Probes.{first_met, sight_in}
use Rattle.debugger.specs.Sessions.{Debug, Debuggee, Hunted, next_state, stepped_to, walk, hunt}
use Rattle.debugger.specs.Making.{LeadsTo, hunt_after}

walk_by : (s : Debuggee) (n : ℕ) (d : Debug) (o : Option (World Beside))
    → next_state s d.steps ≡ o → walk s (suc n) d ≡ elim o [ None ↦ d | Some w ↦ walk s n (stepped_to w d) ]
walk_by s n d o e = ap (λ (v : Option (World Beside)). elim v as (λ x. Debug) [ None ↦ d | Some w ↦ walk s n (stepped_to w d) ]) e

-- where the run has ended a walk stays
walk_ended : (s : Debuggee) (k : ℕ) (d : Debug) → next_state s d.steps ≡ None → walk s k d ≡ d
walk_ended s zero d e = refl
walk_ended s (suc n) d e = walk_by s n d None e

hunt_by : (s : Debuggee) (n : ℕ) (d : Debug) (o : Option (World Beside)) → next_state s d.steps ≡ o → hunt s (suc n) d
    ≡ elim o [
      | None ↦ record { debug = d; hit = None }
      | Some w ↦ elim (first_met 0 (sight_in w) d.probes) [
        | Some probe ↦ record { debug = stepped_to w d; hit = Some probe }
        | None ↦ hunt s n (stepped_to w d)
      ]
    ]
hunt_by s n d o e =
    ap (λ (v : Option (World Beside)). elim v as (λ x. Hunted) [
      | None ↦ record { debug = d; hit = None }
      | Some w ↦ elim (first_met 0 (sight_in w) d.probes) as (λ x. Hunted) [
        | Some probe ↦ record { debug = stepped_to w d; hit = Some probe }
        | None ↦ hunt s n (stepped_to w d)
      ]
    ]) e

abbrev pub came : Debug → Option ℕ → Hunted
came d hit = record { debug = d; hit = hit }

-- and a hunt does
hunt_ended : (s : Debuggee) (k : ℕ) (d : Debug) → next_state s d.steps ≡ None → hunt s k d ≡ came d None
hunt_ended s zero d e = refl
hunt_ended s (suc n) d e = hunt_by s n d None e

found : (s : Debuggee) (n : ℕ) (d : Debug) (o : Option ℕ)
    → elim o as (λ x. Hunted) [ Some probe ↦ record { debug = d; hit = Some probe } | None ↦ hunt s n d ] ≡ hunt_after s n d o
found s n d None = refl
found s n d (Some probe) = refl

-- zero steps leave a session at the time at which it is
pub none_led : (s : Debuggee) (d : Debug) → LeadsTo s 0 d d None
none_led s d = record {
  walked = λ more. let z : 0 + more ≡ more = omega arith in ap (λ (n : ℕ). walk s n d) z;
  hunted = λ more. let z : 0 + more ≡ more = omega arith in ap (λ (n : ℕ). hunt s n d) z;
}

-- one step leads a session on by a step, and each probe looks at the state after it
pub one_led : (s : Debuggee) (d : Debug) (w : World Beside)
    → next_state s d.steps ≡ Some w → LeadsTo s 1 d (stepped_to w d) (first_met 0 (sight_in w) d.probes)
one_led s d w next = record {
  walked = λ more. let z : 1 + more ≡ suc more = omega arith in ap (λ (n : ℕ). walk s n d) z ∙ walk_by s more d (Some w) next;
  hunted = λ more. let z : 1 + more ≡ suc more = omega arith in
      ap (λ (n : ℕ). hunt s n d) z ∙ hunt_by s more d (Some w) next ∙ found s more (stepped_to w d) (first_met 0 (sight_in w) d.probes);
}

-- some steps that hit no probe, and then others
pub then_led : (s : Debuggee) (a b : ℕ) (d e f : Debug) (hit : Option ℕ)
    → LeadsTo s a d e None → LeadsTo s b e f hit → LeadsTo s (a + b) d f hit
then_led s a b d e f hit one two = record {
  walked = λ more. let z : a + b + more ≡ a + (b + more) = omega arith in
      ap (λ (n : ℕ). walk s n d) z ∙ one.walked (b + more) ∙ two.walked more;
  hunted = λ more. let z : a + b + more ≡ a + (b + more) = omega arith in
      ap (λ (n : ℕ). hunt s n d) z ∙ one.hunted (b + more) ∙ two.hunted more;
}

module _ (s : Debuggee) (left made : ℕ) (d e : Debug) (hit : Option ℕ) (within : made ≤ left) (led : LeadsTo s made d e hit) where
  all_steps : made + (left - made) ≡ left
  all_steps = omega (arith, within)

  -- a walk goes on
  pub walk_on : (all : Debug) → walk s left d ≡ all → walk s (left - made) e ≡ all
  walk_on all so_far = sym (led.walked (left - made)) ∙ ap (λ (n : ℕ). walk s n d) all_steps ∙ so_far

  -- up to the run's end
  pub walk_end : (all : Debug) → walk s left d ≡ all → next_state s e.steps ≡ None → e ≡ all
  walk_end all so_far none = sym (walk_ended s (left - made) e none) ∙ walk_on all so_far

  hunt_from : (all : Hunted) → hunt s left d ≡ all → hunt_after s (left - made) e hit ≡ all
  hunt_from all so_far = sym (led.hunted (left - made)) ∙ ap (λ (n : ℕ). hunt s n d) all_steps ∙ so_far

  -- a hunt goes on where no probe was hit
  pub hunt_on : (all : Hunted) → hunt s left d ≡ all → hit ≡ None → hunt s (left - made) e ≡ all
  hunt_on all so_far none = ap (hunt_after s (left - made) e) (sym none) ∙ hunt_from all so_far

  -- and ends where one was hit, or the run has ended
  pub hunt_end : (all : Hunted) → hunt s left d ≡ all → (hit ≡ None → next_state s e.steps ≡ None) → came e hit ≡ all
  hunt_end all so_far ends =
      elim hit as (λ o. hit ≡ o → came e hit ≡ all) [
        | None ↦ λ h. ap (came e) h ∙ sym (hunt_ended s (left - made) e (ends h)) ∙ hunt_on all so_far h
        | Some probe ↦ λ h. ap (came e) h ∙ ap (hunt_after s (left - made) e) (sym h) ∙ hunt_from all so_far
      ] refl

-- what is answered of a hit
pub none_of : (hit : Option ℕ) (b : Bool) → b ≡ is_some hit → b ≡ false → hit ≡ None
none_of None b is off = refl
none_of (Some probe) b is off = absurd (cc (sym is ∙ off))

-- a search that hit something didn't hit nothing
pub some_of : (hit : Option ℕ) (b : Bool) → b ≡ is_some hit → b ≡ true → {A : Type 0} → hit ≡ None → A
some_of None b is on none = absurd (cc (sym is ∙ on))
some_of (Some probe) b is on none = absurd (cc none)
