use Rattle.std.proofs.Common.{sym, subst}
use Rattle.joint_feed.specs.Stories.{Story}
use Rattle.key_file.proofs.Lawful.{lawful_for}
use Rattle.run_loop.specs.declared.ending.Ending.TheVariants.{TickStart}
use Rattle.run_loop.specs.Gliding.{IsTimely}
use Rattle.run_wires.specs.Ending.{IsTraceBrokenOff, IsTraceSaid}
use Rattle.run_wires.proofs.tracing.trace.Goals as goal

pub put_timely-requires : goal.put_timely-requires
put_timely-requires g c = record {
  timely = subst (λ (s : Story). IsTimely TickStart s) (sym c.in-Ok.ensures.run)
      (c.run_and_model_agree.ensures.agreement c.args.layout.now (g.F.Feed.feeds c.args.feed).history c.of_layout.ensures.layout
      (lawful_for c.requires.accepted)).0;
}

pub returns-in-Err-put_timely-clause-broken : goal.returns-in-Err-put_timely-clause-broken
returns-in-Err-put_timely-clause-broken g c = λ _.
    subst (λ (s : Story). IsTraceBrokenOff c.args.seen s (g.K.Sink.shown c.args.out.now) (g.K.Sink.shown c.put_timely.new.out))
    c.in-Ok.ensures.run c.in-Err-put_timely.ensures.broken

pub returns-in-Ok-put_timely-clause-said : goal.returns-in-Ok-put_timely-clause-said
returns-in-Ok-put_timely-clause-said g c =
    subst (λ (s : Story). IsTraceSaid c.args.seen s (g.K.Sink.shown c.args.out.now) (g.K.Sink.shown c.put_timely.new.out))
    c.in-Ok.ensures.run c.in-Ok-put_timely.ensures.said

pub returns-in-Ok-put_timely-clause-heard : goal.returns-in-Ok-put_timely-clause-heard
returns-in-Ok-put_timely-clause-heard g c =
    c.wires_are_heard.ensures.heard c.args.layout.now (g.F.Feed.feeds c.args.feed).history c.of_layout.ensures.layout (lawful_for c.requires.accepted)

pub returns-in-Err-clause-heard : goal.returns-in-Err-clause-heard
returns-in-Err-clause-heard g c =
    c.wires_are_heard.ensures.heard c.args.layout.now (g.F.Feed.feeds c.args.feed).history c.of_layout.ensures.layout (lawful_for c.requires.accepted)

pub returns-in-Err-put_timely-clause-heard : goal.returns-in-Err-put_timely-clause-heard
returns-in-Err-put_timely-clause-heard g c =
    c.wires_are_heard.ensures.heard c.args.layout.now (g.F.Feed.feeds c.args.feed).history c.of_layout.ensures.layout (lawful_for c.requires.accepted)
