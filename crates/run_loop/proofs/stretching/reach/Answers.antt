use Rattle.std.proofs.Common.{◌+◌, ◌-◌, refl, subst, sym, arith}
use Rattle.fw_kernel.specs.declared.labels.TheConstants.{TICK}
use Rattle.run_loop.specs.Stretching.{NoneHalts}
use Rattle.run_loop.proofs.Timekeeping.{before_stamp, soon}
use Rattle.run_loop.proofs.stretching.reach.Goals as goal

pub returns-in-TickStart-clause-none : goal.returns-in-TickStart-clause-none
returns-in-TickStart-clause-none c =
    let from = c.args.course.now.joint.cycle in
    subst (λ e. NoneHalts e c.args.halt.stop TICK (from + 65536)) (sym c.in-TickStart.is) refl

pub returns-in-TickStart-clause-near : goal.returns-in-TickStart-clause-near
returns-in-TickStart-clause-near c =
    let near = soon c.args.halt c.requires.going.0 c.args.course.now c.requires.going.1 in
    omega (arith, near)

pub returns-in-Stamp-clause-none : goal.returns-in-Stamp-clause-none
returns-in-Stamp-clause-none c =
    let before = before_stamp c.args.halt c.requires.going.0 c.args.course.now c.requires.going.1 c.in-Stamp.is in
    let cycle = c.cycle-cycle.ensures.cycle in
    let stop = c.args.halt.stop in
    let to = c.args.course.now.joint.cycle + (4095 + stop - c.cycle-cycle.result) in
    subst (λ e. NoneHalts e stop 2048 to) (sym c.in-Stamp.is) (omega (arith, before, cycle))

pub returns-in-Stamp-clause-near : goal.returns-in-Stamp-clause-near
returns-in-Stamp-clause-near c =
    let before = before_stamp c.args.halt c.requires.going.0 c.args.course.now c.requires.going.1 c.in-Stamp.is in
    let cycle = c.cycle-cycle.ensures.cycle in
    let range = c.requires.range in
    omega (arith, before, cycle, range)
