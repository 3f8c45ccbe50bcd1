use Rattle.std.proofs.Common.{◌≤◌, ◌+◌, arith, refl, subst}
use Rattle.host_turn.specs.Run.{desk_of}
use Rattle.model_controller.specs.ByteTime.{is_open}
use Rattle.host_wakes.specs.Wakes.{SleepsTo}
use Rattle.model_link.proofs.Stretch.{run_leaps, run_once}
use Rattle.model_link.proofs.running.Running.run_on.Goals as goal

pub cycles-preserved-then-now-to : goal.cycles-preserved-then-now-to
cycles-preserved-then-now-to c =
    let lower : c.args.from ≤ c.sleep-now.result = omega (arith, c.cycles.invariant.from, c.sleep-now.ensures.from) in
    record {
      from = omega (arith, lower);
      to = omega (arith, c.if-now-to.true);
      runs = run_once c.args.events.now c.args.from c.args.self.now c.sleep-now.result
          (c.sleep-now.result + 1) c.cycles.self c.cycle.new.self lower refl
          (run_leaps c.args.events.now c.args.from c.args.self.now c.cycles.now c.sleep-now.result c.cycles.self
          c.cycles.invariant.from c.sleep-now.ensures.from c.cycles.invariant.runs
          (subst (λ o. SleepsTo is_open o (desk_of c.cycles.self) c.cycles.now c.sleep-now.result) c.next-next.ensures
          c.sleep-now.ensures.sleeps))
          c.in_ok-cycle.ensures;
    }

pub cycles-preserved : goal.cycles-preserved
cycles-preserved c = record {
  from = omega (arith, c.cycles.invariant.from, c.sleep-now.ensures.from);
  to = c.sleep-now.ensures.to;
  runs = run_leaps c.args.events.now c.args.from c.args.self.now c.cycles.now c.sleep-now.result c.cycles.self
      c.cycles.invariant.from c.sleep-now.ensures.from c.cycles.invariant.runs
      (subst (λ o. SleepsTo is_open o (desk_of c.cycles.self) c.cycles.now c.sleep-now.result) c.next-next.ensures
      c.sleep-now.ensures.sleeps);
}
