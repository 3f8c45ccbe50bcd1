use Rattle.std.proofs.Common.{◌≡◌, ◌^◌, ◌-◌, true, List, map}
use Rattle.run_probes.specs.Probes.{Watch, sight_of}
use Rattle.run_probes.specs.Resting.{all_rest}
use Rattle.joint_feed.specs.Stories.{Story}
use Rattle.run_loop.specs.Gliding.{IsUnderWay}
use Rattle.run_loop.proofs.Dozing.{HasDozed}
use Rattle.run_loop.proofs.gliding.glide.Given as goal

abbrev pub invariant-steps : goal.invariant-steps
invariant-steps g l = record {
  dozed : (s : Story) (first : List Watch)
      → IsUnderWay l.halt s first l.fn.course (map (λ b. (goal.Probe-dyn g (b.vtable, b.value)).watch b.value) l.fn.probes.items)
      → HasDozed l.halt s first l.fn.course l.latest l.course (map (λ b. (goal.Probe-dyn g (b.vtable, b.value)).watch b.value) l.probes.items);
  resting : l.rest ≡ true → all_rest l.clk (map (λ b. (goal.Probe-dyn g (b.vtable, b.value)).watch b.value) l.probes.items) ≡ true;
  level : (sight_of l.course.joint).lines.clk ≡ l.clk;
  levels : l.halt.wires ≡ true → (sight_of l.course.joint).lines ≡ l.lines;
}

abbrev pub decreases-steps : goal.decreases-steps
decreases-steps g l = 2 ^ 31 - l.course.joint.cycle
