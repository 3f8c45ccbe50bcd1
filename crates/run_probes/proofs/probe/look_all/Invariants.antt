use Rattle.std.proofs.Common.{◌≡◌, map, take, drop, ◌++◌}
use Rattle.run_probes.specs.Probes.{looked, first_met, sight_of}
use Rattle.run_probes.proofs.probe.look_all.Given as goal

abbrev pub invariant-loop-probe : goal.invariant-loop-probe
invariant-loop-probe g l = record {
  number : l.number ≡ l.probe-index;
  so_far :
      map (λ b. (goal.Probe-dyn g (b.vtable, b.value)).watch b.value) l.probe-items
      ≡ map (looked l.step (sight_of l.joint))
      (take l.probe-index (map (λ b. (goal.Probe-dyn g (b.vtable, b.value)).watch b.value) l.fn.probes.items))
      ++ drop l.probe-index (map (λ b. (goal.Probe-dyn g (b.vtable, b.value)).watch b.value) l.fn.probes.items);
  hit : l.hit ≡ first_met 0 (sight_of l.joint)
      (take l.probe-index (map (λ b. (goal.Probe-dyn g (b.vtable, b.value)).watch b.value) l.fn.probes.items));
}
