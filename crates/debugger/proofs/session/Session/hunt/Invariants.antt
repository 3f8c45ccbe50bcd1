use Rattle.std.proofs.Common.{◌≡◌, map}
use Rattle.debugger.specs.Sessions.{debug, hunt}
use Rattle.debugger.proofs.session.Session.hunt.Given as goal

abbrev pub invariant-steps : goal.invariant-steps
invariant-steps g l = record {
  debuggee : l.self.debuggee ≡ l.fn.self.debuggee;
  so_far :
      hunt l.fn.self.debuggee l.left (debug l.self (map (λ b. (goal.Probe-dyn g (b.vtable, b.value)).watch b.value) l.probes.items))
      ≡ hunt l.fn.self.debuggee l.count
      (debug l.fn.self (map (λ b. (goal.Probe-dyn g (b.vtable, b.value)).watch b.value) l.fn.probes.items));
}

abbrev pub decreases-steps : goal.decreases-steps
decreases-steps g l = l.left
