use Rattle.debugger.proofs.Printed.{reads, shown_as}
use Rattle.debugger.proofs.session.Session.show.Goals as goal

pub returns : goal.returns
returns c =
    reads _ c.state_text.result
    _ _ (shown_as c.args.self.now c.joint-joint.result.now c.mcu.result.now c.steps.result c.cycle.result c.joint-joint.ensures.state
    c.mcu.ensures.processor c.steps.ensures.steps c.cycle.ensures.cycle) c.state_text.ensures.text
