use Rattle.std.proofs.Common.{◌≡◌, ap, subst, sym, ◌∙◌}
use Rattle.debugger.specs.Advance.{DecidesSessionOver}
use Rattle.debugger.specs.Sessions.{has_ended}
use Rattle.run_probes.specs.Stuck.{sticks}
use Rattle.debugger.proofs.SessionStates.{debuggee_in, ended_so}
use Rattle.debugger.proofs.session.Session.has_ended.Goals as goal

pub returns-else-is_past : goal.returns-else-is_past
returns-else-is_past c =
    subst (λ t. c.sticks.result ≡ has_ended t.debuggee t.steps) c.self.view_is
    (ended_so (debuggee_in c.self.inside.course.fill c.self.inside.image.bytes c.self.inside.history c.self.inside.latest)
    c.self.inside.course c.self.invariant.0 c.is_past.result c.sticks.result
    (subst (λ t. DecidesSessionOver t c.is_past.result) (sym c.self.view_is) c.is_past.ensures) c.if-is_past.false
    (c.sticks.ensures ∙ ap (sticks c.self.inside.image.bytes) c.mcu.ensures.processor))
