use Rattle.std.proofs.Common.{◌≡◌, length, map}
use Rattle.std.specs.Str.Lines.{lines}
use Rattle.debugger.specs.Obeyed.{begun}
use Rattle.debugger.specs.Sessions.{debug}
use Rattle.debugger.proofs.Obeyed.{AreDone}
use Rattle.debugger.proofs.scripted.obey_lines.Given as goal

-- the lines up to those that are left are obeyed
abbrev pub invariant-loop-line : goal.invariant-loop-line
invariant-loop-line g l = record {
  debuggee : l.session.debuggee ≡ l.fn.session.debuggee;
  so_far :
      AreDone l.fn.session.debuggee (lines l.script)
      (begun (map (λ b. (goal.Probe-dyn g (b.vtable, b.value)).watch b.value) l.fn.probes.items)) (lines l.rest)
      (debug l.session (map (λ b. (goal.Probe-dyn g (b.vtable, b.value)).watch b.value) l.probes.items)) l.text.items;
}

abbrev pub decreases-loop-line : goal.decreases-loop-line
decreases-loop-line g l = length l.rest
