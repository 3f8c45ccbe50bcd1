use Rattle.std.proofs.Common.{ℕ, List, ap, sym, subst, ◌∙◌, arith}
use Rattle.joint_feed.specs.Course.{IsOnCourse}
use Rattle.joint_feed.specs.Filled.{filled_story}
use Rattle.debugger.specs.Advance.{DecidesSessionOver}
use Rattle.debugger.specs.Making.{IsAdvanced, RestAt}
use Rattle.debugger.specs.Sessions.{Sitting, sitting}
use Rattle.debugger.specs.Striding.{HasStrode}
use Rattle.debugger.proofs.Making.{advanced, over_advanced, stays}
use Rattle.debugger.proofs.SessionStates.{debuggee_in, over_now, room_there}
use Rattle.debugger.proofs.session.Session.advance.Goals as goal

pub returns-then-is_past-clause-advanced : goal.returns-then-is_past-clause-advanced
returns-then-is_past-clause-advanced c = λ before at_rest.
    over_advanced c.args.self.now.debuggee c.args.left c.args.self.now.steps before
    (over_now c.args.self.now c.is_past.result c.is_past.ensures c.if-is_past.true)

pub overflow_sub-room : goal.overflow_sub-room
overflow_sub-room c =
    let it = debuggee_in c.self.inside.course.fill c.self.inside.image.bytes c.self.inside.history c.self.inside.latest in
    let room = room_there c.args.self.now it c.self.inside.course c.self.invariant.0 c.self.view_is _ c.is_past.ensures c.if-is_past.false in
    let end = c.end.ensures.end in
    omega (arith, room, end)

pub overflow_sub-room-2 : goal.overflow_sub-room-2
overflow_sub-room-2 c =
    let it = debuggee_in c.self.inside.course.fill c.self.inside.image.bytes c.self.inside.history c.self.inside.latest in
    let room = room_there c.args.self.now it c.self.inside.course c.self.invariant.0 c.self.view_is _ c.is_past.ensures c.if-is_past.false in
    let end = c.end.ensures.end in
    let now = c.cycle.ensures.cycle in
    omega (arith, room, end, now)

pub stride-requires-clause-near : goal.stride-requires-clause-near
stride-requires-clause-near c =
    let it = debuggee_in c.self.inside.course.fill c.self.inside.image.bytes c.self.inside.history c.self.inside.latest in
    let room = room_there c.args.self.now it c.self.inside.course c.self.invariant.0 c.self.view_is _ c.is_past.ensures c.if-is_past.false in
    let end = c.end.ensures.end in
    let now = c.cycle.ensures.cycle in
    let within = c.quiet_room-most.ensures.within in
    let few = c.self.invariant.1 in
    let stop = c.end.ensures.accepted.end_in_range in
    omega (arith, room, end, now, within, few, stop)

pub invariant_of-self : goal.invariant_of-self
invariant_of-self c =
    let h = c.self.inside.history in
    let old = c.self.inside.course in
    let most = c.quiet_room-most.result in
    let strode : HasStrode (filled_story old.fill c.self.inside.image.bytes h) most old c.stride.result c.stride.new.course =
    subst (λ (bytes : List ℕ). HasStrode (filled_story old.fill bytes h) most old c.stride.result c.stride.new.course)
    c.self.invariant.0.image c.stride.ensures.strode in (
      subst (λ (fill : ℕ). IsOnCourse (filled_story fill c.self.inside.image.bytes h) c.stride.new.course) (sym c.stride.ensures.fill)
          (stays (filled_story old.fill c.self.inside.image.bytes h)
          (record old { joint = strode.last }) c.stride.new.course c.stride.result strode.step),
      c.self.invariant.1,
    )

pub returns-clause-debuggee : goal.returns-clause-debuggee
returns-clause-debuggee c =
    ap (λ (fill : ℕ). debuggee_in fill c.self.inside.image.bytes c.self.inside.history c.self.inside.latest) c.stride.ensures.fill
    ∙ ap (λ (t : Sitting). t.debuggee) c.self.view_is

pub returns-clause-advanced : goal.returns-clause-advanced
returns-clause-advanced c = λ before at_rest.
    let h = c.self.inside.history in
    let it = debuggee_in c.self.inside.course.fill c.self.inside.image.bytes h c.self.inside.latest in
    let old = c.self.inside.course in
    let new = c.stride.new.course in
    let most = c.quiet_room-most.result in
    let a = c.stride.ensures.accepted.lawful in
    let over : DecidesSessionOver (sitting it old.joint.steps) c.is_past.result =
    subst (λ (t : Sitting). DecidesSessionOver t c.is_past.result) (sym c.self.view_is) c.is_past.ensures in
    let room = room_there c.args.self.now it old c.self.invariant.0 c.self.view_is _ c.is_past.ensures c.if-is_past.false in
    let end = c.end.ensures.end in
    let now = c.cycle.ensures.cycle in
    let within = c.quiet_room-most.ensures.within in
    subst (λ (t : Sitting). IsAdvanced t.debuggee c.args.left t.steps before new.joint.steps) c.self.view_is
    (advanced it c.args.left most c.args.rest old new c.stride.result c.self.invariant.0 a.thin a.edges_in_order
    (λ w there. sym (over w there) ∙ c.if-is_past.false)
    (omega (arith, room, end, now, within)) c.quiet_room-most.ensures.few c.quiet_room-most.ensures.alone
    (subst (λ (bytes : List ℕ). HasStrode (filled_story old.fill bytes h) most old c.stride.result new)
    c.self.invariant.0.image c.stride.ensures.strode) before
    (λ resting. subst (λ (t : Sitting). RestAt t.debuggee t.steps before) (sym c.self.view_is) (at_rest resting)))
