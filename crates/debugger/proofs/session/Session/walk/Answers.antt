use Rattle.std.proofs.Common.{◌∙◌}
use Rattle.debugger.proofs.Leading.{walk_end, walk_on}
use Rattle.debugger.proofs.Making.{made_of}
use Rattle.debugger.proofs.session.Session.walk.Goals as goal

pub returns-then-made-eq0-clause-walked : goal.returns-then-made-eq0-clause-walked
returns-then-made-eq0-clause-walked g c =
    let m = made_of _ _ c.steps.left _ _ _ c.steps.invariant.debuggee c.make-made.ensures.made in
    walk_end c.args.self.now.debuggee c.steps.left c.make-made.result.steps _ _ _ m.within m.led
    _ c.steps.invariant.so_far (m.ended c.if-made-eq0.true)

pub steps-preserved : goal.steps-preserved
steps-preserved g c =
    let m = made_of _ _ c.steps.left _ _ _ c.steps.invariant.debuggee c.make-made.ensures.made in
    record {
      debuggee = c.make-made.ensures.debuggee ∙ c.steps.invariant.debuggee;
      so_far = walk_on c.args.self.now.debuggee c.steps.left c.make-made.result.steps _ _ _ m.within m.led _ c.steps.invariant.so_far;
    }
