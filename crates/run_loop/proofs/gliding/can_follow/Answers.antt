use Rattle.std.proofs.Common.{◌≡◌, false, not, ap, ◌∙◌}
use Rattle.run_loop.proofs.Over.{no_halt}
use Rattle.run_loop.proofs.gliding.can_follow.Goals.{then-is_silent, else-is_silent}
use Rattle.run_loop.proofs.gliding.can_follow.Goals as goal

pub returns-else-not-must_halt-clause-always : goal.returns-else-not-must_halt-clause-always
returns-else-not-must_halt-clause-always c = λ can.
    elim c.if-is_silent.branch [
      | then-is_silent w ↦
          let goes_on : w.must_halt.result ≡ false =
          no_halt c.args.halt.ending c.args.course.now.joint c.args.halt.stop w.must_halt.result w.must_halt.ensures.halt can.before_end can.no_tick in
          w.value-is ∙ ap not goes_on
      | else-is_silent w ↦ absurd (cc (w.if-is_silent.false, c.is_silent.ensures.silent can.edges can.host can.items))
    ]
