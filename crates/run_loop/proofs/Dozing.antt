-- Steps that probes which rest needn't look at.
use Rattle.std.proofs.Common.{◌≡◌, ◌≤◌, ◌<◌, ℕ, Bool, true, List, map, ap, sym, ◌∙◌, arith}
use Rattle.run_probes.proofs.AtRest.{all_rested}
use Rattle.run_probes.proofs.Over.{seen_map}
use Rattle.run_probes.specs.Looks.{looks}
use Rattle.run_probes.specs.Probes.{Sight, Watch, looked, sight_of}
use Rattle.run_probes.specs.Resting.{all_rest}
use Rattle.joint_feed.specs.Stories.{Story}
use Rattle.joint_feed.specs.declared.course.Course.{Course}
use Rattle.run_loop.specs.declared.ending.Halt.{Halt}
use Rattle.run_loop.specs.Gliding.{IsOnward, IsStepped}
use Rattle.run_loop.proofs.Quietly.{looked_now, looks_on, next_cycle, next_step, then_onward}

-- steps were made of which nothing is to be reported; the probes looked last at the state after step `latest`, and will
-- have missed nothing once they look at this state or a later one
pub record HasDozed (u : Halt) (s : Story) (first : List Watch) (old : Course) (latest : ℕ) (now : Course) (probes : List Watch)
    : Type 0 where
  pub onward : IsOnward u s old now
  pub before : latest ≤ now.joint.steps
  pub same : (n : ℕ) (v : Sight) → now.joint.cycle < v.cycle
      → map (looked n v) (looks s now.joint.steps first) ≡ map (looked n v) probes
  pub none : now.joint.steps ≡ latest → probes ≡ looks s now.joint.steps first
  pub some : (now.joint.steps ≡ latest → ⊥) → looked_now now probes ≡ looks s now.joint.steps first

-- they have just looked
pub none_dozed : (u : Halt) (s : Story) (first : List Watch) (old now : Course) (latest : ℕ) (probes : List Watch)
    → IsOnward u s old now → latest ≡ now.joint.steps → probes ≡ looks s now.joint.steps first
    → HasDozed u s first old latest now probes
none_dozed u s first old now latest probes onward number is = record {
  onward = onward;
  before = omega (arith, number);
  same = λ n v later. ap (map (looked n v)) (sym is);
  none = λ same. is;
  some = λ other. absurd (other (sym number));
}

module _ (u : Halt) (s : Story) (first : List Watch) (old : Course) (latest : ℕ) (p : Course) (probes : List Watch)
    (d : HasDozed u s first old latest p probes) (new : Course) (t : IsStepped p new) where
  -- a look after the next step makes good for the others
  pub looked_on : looked_now new probes ≡ looks s new.joint.steps first
  looked_on =
      let later = (next_cycle u s p new d.onward.going t).0 in
      sym (looks_on u s p new d.onward.going t first ∙ d.same new.joint.steps (sight_of new.joint) later)

  -- or they rest on, if the clock has the level at which they do
  pub dozes_on : (clk : Bool) → all_rest clk probes ≡ true → (sight_of new.joint).lines.clk ≡ clk → IsOnward u s p new
      → HasDozed u s first old latest new probes
  dozes_on clk at_rest level onward =
      let so_far = d.before in
      let one = next_step u s p new d.onward.going t in
      record {
        onward = then_onward u s old p new d.onward onward;
        before = omega (arith, so_far, one);
        same = λ n v later. ap (map (looked n v)) (sym looked_on)
            ∙ all_rested clk new.joint.steps n (sight_of new.joint) v probes later level at_rest;
        none = λ same. absurd (omega (arith, same, so_far, one));
        some = λ other. looked_on;
      }

-- probes that looked at the present state, as they are seen
pub as_seen : {X : Type 0} (xs : List X) (see : X → Watch) (c : Course) (n : ℕ) (after : List Watch) → n ≡ c.joint.steps
    → after ≡ map (λ x. looked n (sight_of c.joint) (see x)) xs → after ≡ looked_now c (map see xs)
as_seen xs see c n after number so =
    so ∙ sym (seen_map see (looked n (sight_of c.joint)) xs)
    ∙ ap (λ (k : ℕ). map (looked k (sight_of c.joint)) (map see xs)) number
