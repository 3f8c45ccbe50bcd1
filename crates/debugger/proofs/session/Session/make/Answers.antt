use Rattle.std.proofs.Common.{List, [], map, refl, sym, ◌∙◌, arith}
use Rattle.run_probes.proofs.Over.{seen_map}
use Rattle.run_probes.specs.Probes.{Watch, looked, sight_of}
use Rattle.debugger.proofs.Making.{made_none, made_some, resting}
use Rattle.debugger.proofs.session.Session.make.Goals as goal

pub returns-then-steps-first-clause-made : goal.returns-then-steps-first-clause-made
returns-then-steps-first-clause-made g c =
    let before : List Watch = map (λ b. (goal.Probe-dyn g (b.vtable, b.value)).watch b.value) c.args.probes.now.items in
    made_none c.args.self.now.debuggee c.args.left c.args.self.now.steps c.advance.new.self.steps before
    (c.advance.ensures.advanced before
    (resting c.args.self.now c.joint.result.now c.lines.result before c.all_rest-rest.result c.joint.ensures.state
    c.lines.ensures.wires c.all_rest-rest.ensures))
    (sym c.steps-steps.ensures ∙ c.if-steps-first.true ∙ c.steps-first.ensures)

pub overflow_sub-result : goal.overflow_sub-result
overflow_sub-result g c =
    let later = (c.advance.ensures.advanced [] (λ on w there. refl)).later in
    let first = c.steps-first.ensures in
    let steps = c.steps-steps.ensures in
    omega (arith, later, first, steps)

pub returns-clause-made : goal.returns-clause-made
returns-clause-made g c =
    let before : List Watch = map (λ b. (goal.Probe-dyn g (b.vtable, b.value)).watch b.value) c.args.probes.now.items in
    let after : List Watch = map (λ b. (goal.Probe-dyn g (b.vtable, b.value)).watch b.value) c.look_all-hit.new.probes.items in
    let advanced = c.advance.ensures.advanced before
    (resting c.args.self.now c.joint.result.now c.lines.result before c.all_rest-rest.result c.joint.ensures.state
    c.lines.ensures.wires c.all_rest-rest.ensures) in
    let later = advanced.later in
    let first = c.steps-first.ensures in
    let steps = c.steps-steps.ensures in
    let other = c.if-steps-first.false in
    let m = c.joint-2.result.now in
    made_some c.args.self.now.debuggee c.args.left c.args.self.now.steps c.advance.new.self before after _ m c.steps-steps.result
    c.advance.ensures.debuggee advanced (grind (arith, later, first, steps, other))
    (omega (arith, first, steps)) c.joint-2.ensures.state steps
    (c.look_all-hit.ensures.looked ∙ sym (seen_map _ (looked c.steps-steps.result (sight_of m)) c.args.probes.now.items))
    c.look_all-hit.ensures.hit
