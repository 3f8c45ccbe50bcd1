-- The run at power-on.
use Rattle.std.proofs.Common.{◌≡◌, ℕ, ◌+◌, List, [], ◌∷◌, drop, refl, ap, sym, subst, arith}
use Rattle.std.specs.Prelude.{if◌then◌else◌, nat_le, false}
use Rattle.std.proofs.lemmas.Bool.Decides.{nat_tests}
use Rattle.board_terms.specs.declared.event.Edge.{Edge}
use Rattle.joint_run.specs.Due.{made_first, powered_on_from}
use Rattle.joint_run.specs.History.{IsFirstOfRunFrom, IsInRunFrom}
use Rattle.joint_run.specs.Joint.{joint_start_of}
use Rattle.joint_feed.specs.declared.course.Course.{Course}
use Rattle.joint_feed.specs.Course.{IsOnCourse}
use Rattle.joint_feed.specs.Ahead.{IsFed}
use Rattle.joint_feed.specs.Stories.{Story}

-- no edge is made in cycle 0: cycle 4,096 is stamp 0
none_at_first : (edges : List Edge) → made_first 0 edges ≡ []
none_at_first [] = refl
none_at_first (e ∷ es) =
    let off : nat_le (e.stamp + 4096) 0 ≡ false = grind (arith, nat_tests) in
    ap (λ b. if b then e ∷ made_first 0 es else []) off

-- at power-on nothing is made or done
pub begins : (s : Story) (c : Course) → c.joint ≡ powered_on_from s.held s.bytes → IsFirstOfRunFrom s.held c.joint
    → IsFed s.edges s.events c.ahead → c.ahead.made ≡ 0 → c.ahead.done ≡ 0
    → IsOnCourse s c
begins s c on first fed made done =
    let steps : c.joint.steps ≡ 0 = ap (λ m. m.steps) on in
    record {
      world = joint_start_of s.held;
      image = ap (λ m. m.image.bytes) on;
      few = let a : c.joint.cycle ≡ 0 = ap (λ m. m.cycle) on in omega (arith, steps, a);
      in_run = subst (λ (n : ℕ). IsInRunFrom s.held s.edges s.events c.joint n (joint_start_of s.held)) (sym made) (first s.edges s.events);
      unreached = none_at_first (drop c.ahead.made s.edges);
      fed = fed;
      done = done;
      done_within = omega (arith, done);
      made_within = omega (arith, made);
    }
