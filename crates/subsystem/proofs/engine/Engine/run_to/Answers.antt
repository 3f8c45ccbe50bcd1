use Rattle.std.proofs.Common.{◌≡◌, refl, ap, sym, subst, ◌∙◌, arith}
use Rattle.fw_compile.specs.Image.{image_of}
use Rattle.io_edge.proofs.Pieces.{none_said}
use Rattle.io_edge.proofs.Taken.{on_err}
use Rattle.joint_feed.specs.Stories.{Story, story, story_from}
use Rattle.mcs48_core.specs.Cpu.{Cpu}
use Rattle.run_loop.specs.Gliding.{history_of}
use Rattle.subsystem.specs.declared.ended.Ended.{Ended}
use Rattle.subsystem.specs.Ending.{ending}
use Rattle.subsystem.specs.Looking.{HaveLookedAtSome}
use Rattle.subsystem.specs.Putting.{HaveLookedToBreak, IsLogBrokenOff}
use Rattle.subsystem.specs.LayoutOutcomes.{IsOutcome}
use Rattle.subsystem.proofs.Begun.{begins}
use Rattle.subsystem.proofs.Came.{HasCome, broken_whole, by_name, came, looked_by_name}
use Rattle.subsystem.proofs.Timekeeping.{keeps_cadence}
use Rattle.key_file.proofs.Lawful.{lawful_for}
use Rattle.subsystem.proofs.engine.Engine.run_to.Goals as goal

pub make-requires : goal.make-requires
make-requires g c =
    let i = c.self.invariant in
    record {
      timely = i.timely;
      reported = (
        record {
          noted = begins c.self.inside.run i.timely c.self.inside.starts i.none;
          room = let exact = i.room in omega (arith, exact);
          counts = c.none.ensures;
          short = omega arith;
        },
        none_said (g.K.Sink.shown c.args.out.now),
      );
    }

pub returns : goal.returns
returns g c =
    let s = c.self.inside.run in
    let t = c.args.self in
    let time = c.self.invariant.timely in
    let x = g.K.Sink.shown c.args.out.now in
    let y = g.K.Sink.shown c.make.new.out in
    let r = c.in_ok-made.ensures in
    let it = c.make.new.reporter in
    let ended : Ended =
    record { starts = it.starts.stamps; end = c.copied.result; steps = c.steps.result; cycles = c.cycles.result; counts = it.counts } in
    let steps = c.steps.ensures.steps in
    let here =
    came s time c.in_ok-made.made r.finished it x y r.reported ended refl (c.copied.ensures.copy ∙ c.mcu.ensures.processor) steps
    c.cycles.ensures.cycles refl in
    let there = subst (λ (v : Story). HasCome v ended x y) c.self.view_is here in
    record {
      run = there.run;
      said = there.said;
      counts = there.counts;
      agrees = λ layout sound accepted bytes.
          let cleared = sym (ap (λ (v : Story). v.held) c.self.view_is) ∙ c.self.invariant.cleared in
          let same : t ≡ story (image_of layout) (history_of t) =
          ap (λ (held : Cpu). story_from held t.bytes (history_of t)) cleared ∙ ap (λ b. story b (history_of t)) bytes in
          c.runs_are_expected.ensures.expected layout (history_of t) (ending t ended) sound (lawful_for accepted)
          (subst (λ (v : Story). IsOutcome v (ending t ended)) same there.run);
      cadence = keeps_cadence s time (ending s ended) here.run;
      broken = tt;
      looked = looked_by_name s t c.self.view_is _ _ _ ended.steps steps r.looked;
      looked_so_far = by_name HaveLookedAtSome s t c.self.view_is _ _ r.looked_so_far;
      looked_to_break = tt;
    }

pub returns-in_err-made-clause-broken : goal.returns-in_err-made-clause-broken
returns-in_err-made-clause-broken g c =
    let x = g.K.Sink.shown c.args.out.now in
    let y = g.K.Sink.shown c.make.new.out in
    on_err c.from_residual.result _ (subst (λ (v : Story). IsLogBrokenOff v x y) c.self.view_is
    (broken_whole c.self.inside.run c.self.invariant.timely x y _ _ c.in_err-made.ensures.broken))

pub returns-in_err-made-clause-looked_so_far : goal.returns-in_err-made-clause-looked_so_far
returns-in_err-made-clause-looked_so_far g c =
    by_name HaveLookedAtSome c.self.inside.run c.args.self c.self.view_is _ _ c.in_err-made.ensures.looked_so_far

pub returns-in_err-made-clause-looked_to_break : goal.returns-in_err-made-clause-looked_to_break
returns-in_err-made-clause-looked_to_break g c =
    on_err c.from_residual.result _
    (by_name (λ v. HaveLookedToBreak v (g.K.Sink.shown c.args.out.now) (g.K.Sink.shown c.make.new.out)) c.self.inside.run c.args.self
    c.self.view_is _ _ c.in_err-made.ensures.broken)
