use Rattle.std.proofs.Common.{◌≤◌, ◌<◌, ◌+◌, ap, sym, subst, ◌∙◌, arith}
use Rattle.joint_run.specs.Joint.{latch_of, lights_of}
use Rattle.mcs48_core.specs.Cpu.{Cpu}
use Rattle.kbd_half.specs.Keyboards.{with_chip}
use Rattle.kbd_half.specs.Rests.{AreAlike}
use Rattle.kbd_half.proofs.Ahead.{ahead_by, with_cpu}
use Rattle.kbd_half.proofs.keyboard.KbdHalf.rests.Goals as goal

pub steps-preserved : goal.steps-preserved
steps-preserved c =
    let k = c.args.self.now in
    let taken = c.from-taken.result in
    let is = c.if-not-rests_on.false in
    let made : 0 < c.step_ahead.result = subst (λ n. 0 < n) c.from-taken.ensures (c.rests_on.ensures.made is) in
    let fits = c.rests_on.ensures.fits is in
    let before = c.steps.invariant.within in
    let within : c.steps.cycles + taken ≤ c.args.most = omega (arith, fits, before) in
    let latch = ap (λ (m : Cpu). m.p2) (sym c.ahead-in-steps.view_is) in
    let first = c.steps.invariant.first in
    let alike : AreAlike (with_cpu c.step_ahead.new.mcu k) k =
    (ap latch_of latch ∙ c.rests_on.ensures.levels is ∙ ap latch_of first, ap lights_of latch ∙ c.rests_on.ensures.lights is ∙ ap lights_of first) in
    record {
      ahead = ahead_by c.args.others c.args.most k c.steps.ahead c.step_ahead.new.mcu c.steps.cycles taken
          c.steps.invariant.ahead (c.step_ahead.ensures.stuck.0 made) (c.from-taken.ensures ∙ c.step_ahead.ensures.cycles)
          (ap (λ chip. with_chip chip k) c.step_ahead.ensures.after) within alike;
      first = first;
      within = within;
    }
