use Rattle.std.proofs.Common.{◌<◌, ◌+◌, refl, ap, sym, ◌∙◌, inl, inr, arith}
use Rattle.live_board.proofs.Gliding.{gone_far, stuck_near}
use Rattle.live_board.proofs.Limits.{at_limit, few_after, none_made, within_limit}
use Rattle.live_board.proofs.Meeting.{as_met, lines_of}
use Rattle.live_board.proofs.Onwards.{ends_met, goes_onward, quiet_unmet, stuck_onward, unmet_step}
use Rattle.live_board.proofs.Tallying.{rise_few}
use Rattle.live_board.specs.Onward.{IsUnmetStep, begun}
use Rattle.live_board.specs.Rising.{irq_of}
use Rattle.live_board.specs.Running.{AreFew, is_met}
use Rattle.live_board.proofs.parts.Parts.go_to.Goals as goal

pub going-init : goal.going-init
going-init c =
    let start = c.cycle-start.ensures.cycle in
    record {
      start = c.cycle-start.ensures.cycle;
      first = c.steps-first.ensures.steps;
      line = c.irq-was.ensures.irq;
      later = omega arith;
      more = omega arith;
      limit = none_made c.args.self.now.joint.steps c.args.steps;
      few = omega (arith, start);
      onward = (0, refl);
    }

pub going-preserved : goal.going-preserved
going-preserved c =
    let inv = c.going.invariant in
    let old = c.args.self.now in
    let k = c.going.self in
    let new = c.glide.new.self in
    let e = c.in-Ok.ensures in
    let most = c.quiet_room-most.result in
    let g = e.gone in
    let far = gone_far k new most g in
    let on = far.later in
    let up = far.more in
    let steps = far.few in
    let later = inv.later in
    let start = inv.start in
    let first = inv.first in
    let above = inv.more in
    let now = c.cycle-cycle.ensures.cycle in
    let made = c.steps.ensures.steps in
    let within = c.quiet_room-most.ensures.within in
    let to = old.joint.cycle + c.args.cycles in
    let stops = c.args.stops.now in
    let room : k.joint.cycle + most < to = omega (arith, within, now, start, later) in
    let quietly = quiet_unmet stops to k.joint.cycle most c.quiet_room-most.ensures.alone (omega (arith, room)) in
    record {
      start = inv.start;
      first = inv.first;
      line = c.irq-was-in-going.ensures.irq;
      later = omega (arith, later, on);
      more = omega (arith, above, up);
      limit = few_after old.joint.steps _ new.joint.steps c.args.steps c.quiet_room-most.ensures.few
          (omega (arith, steps, made, first, above));
      few =
          let before = inv.few in
          let risen = e.risen in
          let once = rise_few c.going.was (irq_of new.joint.outside.desk.port) in
          omega (arith, before, risen, once, on);
      onward =
          goes_onward k new most to (IsUnmetStep stops to) inv.onward.0 (begun old) inv.onward.1 room quietly g e.edges e.host
          c.going.was inv.line e.kept e.risen
          (unmet_step k new most to (IsUnmetStep stops to) inv.onward.0 (begun old) inv.onward.1 room quietly g e.edges e.host
          c.going.was inv.line e.kept e.risen stops
          (ap is_met (as_met stops new c.met-met.result c.going.was (irq_of k.joint.outside.desk.port)
          c.lines-lines.result (lines_of k.joint) c.met-met.ensures inv.line c.lines-lines.ensures.wires)
          ∙ sym c.is_any.ensures ∙ c.if-is_any.false));
    }

pub going-smaller : goal.going-smaller
going-smaller c =
    let more = (gone_far c.going.self c.glide.new.self c.quiet_room-most.result c.in-Ok.ensures.gone).later in
    let near = c.if-cycle-ge-LAST_CYCLE.false in
    let at = c.cycle-cycle.ensures.cycle in
    omega (arith, more, near, at)

pub returns-then-is_full-clause-onward : goal.returns-then-is_full-clause-onward
returns-then-is_full-clause-onward c =
    let inv = c.going.invariant in
    let made = c.steps.ensures.steps in
    let first = inv.first in
    let above = inv.more in (
      inv.onward.0,
      inv.onward.1,
      inv.limit,
      inr (at_limit c.args.self.now.joint.steps _ c.going.self.joint.steps c.args.steps (c.is_full.ensures.full c.if-is_full.true)
          inv.limit (omega (arith, made, first, above))),
    )

pub returns-then-cycle-ge-LAST_CYCLE-clause-onward : goal.returns-then-cycle-ge-LAST_CYCLE-clause-onward
returns-then-cycle-ge-LAST_CYCLE-clause-onward c =
    let inv = c.going.invariant in
    let over = c.if-cycle-ge-LAST_CYCLE.true in
    let at = c.cycle-cycle.ensures.cycle in
    let test = c.going-test.true in
    let now = c.cycle.ensures.cycle in
    let start = inv.start in
    let later = inv.later in
    let made = c.steps.ensures.steps in
    let first = inv.first in
    let above = inv.more in (
      inv.onward.0,
      inv.onward.1,
      omega (arith, over, at),
      record {
        soon = omega (arith, test, now, start, later);
        few = within_limit c.args.self.now.joint.steps _ c.going.self.joint.steps c.args.steps
            (c.is_full.ensures.room c.if-is_full.false) (omega (arith, made, first, above));
      },
    )

pub returns-in-Err-clause-later : goal.returns-in-Err-clause-later
returns-in-Err-clause-later c =
    let later = c.going.invariant.later in
    let more = (stuck_near c.going.self c.glide.new.self c.quiet_room-most.result c.in-Err.stuck c.in-Err.ensures.gone).later in
    omega (arith, later, more)

pub returns-in-Err-clause-onward : goal.returns-in-Err-clause-onward
returns-in-Err-clause-onward c =
    let inv = c.going.invariant in
    let old = c.args.self.now in
    let k = c.going.self in
    let new = c.glide.new.self in
    let e = c.in-Err.ensures in
    let most = c.quiet_room-most.result in
    let near = stuck_near k new most c.in-Err.stuck e.gone in
    let at = near.soon in
    let steps = near.few in
    let later = inv.later in
    let start = inv.start in
    let first = inv.first in
    let above = inv.more in
    let now = c.cycle-cycle.ensures.cycle in
    let made = c.steps.ensures.steps in
    let within = c.quiet_room-most.ensures.within in
    let to = old.joint.cycle + c.args.cycles in
    let room : k.joint.cycle + most < to = omega (arith, within, now, start, later) in
    let quietly = quiet_unmet c.args.stops.now to k.joint.cycle most c.quiet_room-most.ensures.alone (omega (arith, room)) in
    let stuck = stuck_onward k new most (IsUnmetStep c.args.stops.now to) inv.onward.0 (begun old) c.in-Err.stuck
    inv.onward.1 quietly e.gone e.unchanged e.log_unchanged.0 e.log_unchanged.1 in (
      stuck.0,
      stuck.1,
      stuck.2,
      stuck.3,
      stuck.4,
      record {
        soon = omega (arith, at, room);
        few = within_limit old.joint.steps _ new.joint.steps c.args.steps c.quiet_room-most.ensures.few
            (omega (arith, steps, made, first, above));
      },
    )

pub returns-then-is_any-clause-later : goal.returns-then-is_any-clause-later
returns-then-is_any-clause-later c =
    let later = c.going.invariant.later in
    let more = (gone_far c.going.self c.glide.new.self c.quiet_room-most.result c.in-Ok.ensures.gone).later in
    omega (arith, later, more)

pub returns-then-is_any-clause-onward : goal.returns-then-is_any-clause-onward
returns-then-is_any-clause-onward c =
    let inv = c.going.invariant in
    let old = c.args.self.now in
    let k = c.going.self in
    let new = c.glide.new.self in
    let e = c.in-Ok.ensures in
    let most = c.quiet_room-most.result in
    let steps = (gone_far k new most e.gone).few in
    let later = inv.later in
    let start = inv.start in
    let first = inv.first in
    let above = inv.more in
    let now = c.cycle-cycle.ensures.cycle in
    let made = c.steps.ensures.steps in
    let within = c.quiet_room-most.ensures.within in
    let to = old.joint.cycle + c.args.cycles in
    let stops = c.args.stops.now in
    let room : k.joint.cycle + most < to = omega (arith, within, now, start, later) in
    let quietly = quiet_unmet stops to k.joint.cycle most c.quiet_room-most.ensures.alone (omega (arith, room)) in
    ends_met k new most to (IsUnmetStep stops to) inv.onward.0 (begun old) inv.onward.1 room quietly e.gone e.edges e.host
    c.going.was inv.line e.kept e.risen stops c.met-met.result (AreFew old c.args.steps new)
    (as_met stops new c.met-met.result c.going.was (irq_of k.joint.outside.desk.port)
    c.lines-lines.result (lines_of k.joint) c.met-met.ensures inv.line c.lines-lines.ensures.wires)
    (sym c.is_any.ensures ∙ c.if-is_any.true)
    (few_after old.joint.steps _ new.joint.steps c.args.steps c.quiet_room-most.ensures.few
    (omega (arith, steps, made, first, above)))

pub returns-clause-onward : goal.returns-clause-onward
returns-clause-onward c =
    let inv = c.going.invariant in
    let later = inv.later in
    let start = inv.start in
    let now = c.cycle.ensures.cycle in
    let test = c.going-test.false in
    (inv.onward.0, inv.onward.1, inv.limit, inl (omega (arith, test, now, start, later)))
