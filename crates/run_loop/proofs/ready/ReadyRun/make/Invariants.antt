use Rattle.std.proofs.Common.{◌≡◌, ◌<◌, ◌^◌, ◌-◌, map}
use Rattle.run_probes.specs.Looks.{looks}
use Rattle.joint_feed.specs.Ahead.{HasTaken}
use Rattle.key_file.specs.Accepted.{IsAccepted}
use Rattle.run_loop.specs.Gliding.{HasRunSoFar, history_of}
use Rattle.run_loop.proofs.ready.ReadyRun.make.Given as goal

abbrev pub invariant-steps : goal.invariant-steps
invariant-steps g l = record {
  history : (g.F.Feed.feeds l.feed).history ≡ history_of l.fn.self;
  accepted : IsAccepted (history_of l.fn.self);
  stop : l.fn.self.stop ≡ l.stop;
  run_so_far : HasRunSoFar l.ending l.fn.self l.course;
  taken : HasTaken (g.F.Feed.feeds l.feed) l.course.ahead;
  near : l.course.joint.cycle < 2 ^ 31;
  reported : g.T.Reporter.has_reported l.ending l.fn.self l.fn.out l.course.joint.steps l.reporter l.out;
  looked :
      map (λ b. (goal.Probe-dyn g (b.vtable, b.value)).watch b.value) l.probes.items
      ≡ looks l.fn.self l.course.joint.steps (map (λ b. (goal.Probe-dyn g (b.vtable, b.value)).watch b.value) l.fn.probes.items);
}

abbrev pub decreases-steps : goal.decreases-steps
decreases-steps g l = 2 ^ 31 - l.course.joint.cycle
