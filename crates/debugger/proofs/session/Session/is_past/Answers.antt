use Rattle.std.proofs.Common.{refl, subst}
use Rattle.debugger.specs.Advance.{DecidesSessionOver}
use Rattle.debugger.proofs.SessionStates.{debuggee_in, past_so}
use Rattle.debugger.proofs.session.Session.is_past.Goals as goal

pub returns : goal.returns
returns c =
    subst (λ t. DecidesSessionOver t c.is_end.result) c.self.view_is
    (past_so (debuggee_in c.self.inside.course.fill c.self.inside.image.bytes c.self.inside.history c.self.inside.latest)
    c.self.inside.course c.self.invariant.0 c.at_tick-starts.result c.cycle-cycle.result c.end.result
    c.self.inside.latest c.is_end.result
    c.at_tick-starts.ensures.decides c.cycle-cycle.ensures.cycle c.end.ensures.end refl c.is_end.ensures)
