use Rattle.std.proofs.Common.{ap, arith, subst, sym}
use Rattle.joint_feed.specs.Stories.{Story}
use Rattle.key_file.proofs.Lawful.{lawful_for}
use Rattle.run_loop.specs.declared.ending.Ending.TheVariants.{TickStart}
use Rattle.run_loop.specs.Gliding.{IsTimely}
use Rattle.subsystem.proofs.engine.Engine.new.Goals as goal

pub invariant_of-result : goal.invariant_of-result
invariant_of-result g c =
    let to = c.in_ok-run.ensures.run in
    let end = c.end.ensures.end in
    let stop = ap (λ (s : Story). s.stop) to in
    let exact = c.in_ok-stamps.ensures.exact in
    record {
      cleared = ap (λ (s : Story). s.held) to;
      timely = subst (λ (s : Story). IsTimely TickStart s) (sym to)
          (c.run_and_model_agree.ensures.agreement c.args.layout.now (g.F.Feed.feeds c.args.feed).history c.of_layout.ensures.layout
          (lawful_for c.requires.accepted)).0;
      none = c.in_ok-stamps.ensures.items;
      room = omega (arith, end, stop, exact);
    }
