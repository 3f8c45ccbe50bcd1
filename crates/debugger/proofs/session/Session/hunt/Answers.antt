use Rattle.std.proofs.Common.{ap, sym, ◌∙◌}
use Rattle.debugger.specs.Sessions.{Hunted}
use Rattle.debugger.proofs.Leading.{hunt_end, hunt_on, none_of, some_of}
use Rattle.debugger.proofs.Making.{made_of}
use Rattle.debugger.proofs.session.Session.hunt.Goals as goal

pub returns-then-made-eq0 : goal.returns-then-made-eq0
returns-then-made-eq0 g c =
    let m = made_of _ _ c.steps.left _ _ _ c.steps.invariant.debuggee c.make-made.ensures.made in
    let end = sym (hunt_end c.args.self.now.debuggee c.steps.left c.make-made.result.steps _ _ _ m.within m.led
    _ c.steps.invariant.so_far (λ none. m.ended c.if-made-eq0.true)) in
    record {
      debuggee = c.make-made.ensures.debuggee ∙ c.steps.invariant.debuggee;
      hunted = ap (λ (h : Hunted). h.debug) end;
      hit = ap (λ (h : Hunted). h.hit) end;
    }

pub returns-then-is_some : goal.returns-then-is_some
returns-then-is_some g c =
    let m = made_of _ _ c.steps.left _ _ _ c.steps.invariant.debuggee c.make-made.ensures.made in
    let end = sym (hunt_end c.args.self.now.debuggee c.steps.left c.make-made.result.steps _ _ _ m.within m.led
    _ c.steps.invariant.so_far (some_of c.make-made.result.hit _ c.is_some.ensures c.if-is_some.true)) in
    record {
      debuggee = c.make-made.ensures.debuggee ∙ c.steps.invariant.debuggee;
      hunted = ap (λ (h : Hunted). h.debug) end;
      hit = ap (λ (h : Hunted). h.hit) end;
    }

pub steps-preserved : goal.steps-preserved
steps-preserved g c =
    let m = made_of _ _ c.steps.left _ _ _ c.steps.invariant.debuggee c.make-made.ensures.made in
    record {
      debuggee = c.make-made.ensures.debuggee ∙ c.steps.invariant.debuggee;
      so_far = hunt_on c.args.self.now.debuggee c.steps.left c.make-made.result.steps _ _ _ m.within m.led _ c.steps.invariant.so_far
          (none_of c.make-made.result.hit _ c.is_some.ensures c.if-is_some.false);
    }
