use Rattle.std.proofs.Common.{◌≡◌, ◌+◌, ◌++◌, get_or, Some, ap, sym, subst, ◌∙◌}
use Rattle.law_typed_log.specs.Typing.{character, stroke_of, stroke_start}
use Rattle.key_planner.specs.Kept.{meant}
use Rattle.key_planner.specs.Plan.{stroke_lines}
use Rattle.key_planner.proofs.Written.{IsSoFar, so_far-first, so_far-next}
use Rattle.key_planner.proofs.planning.written.Goals as goal

pub loop-number-init : goal.loop-number-init
loop-number-init c =
    subst (IsSoFar c.args.layout.now c.args.text.now 0) (sym c.new-plan.ensures.items) (so_far-first c.args.layout.now c.args.text.now)

pub loop-number-preserved : goal.loop-number-preserved
loop-number-preserved c =
    let layout = c.args.layout.now in
    let text = c.args.text.now in
    let number = c.loop-number.number in
    let plan = c.loop-number.plan.items in
    let stroke = meant c.in-Some.stroke in
    let is : stroke_of layout (character (get_or text number 0)) ≡ Some stroke = sym c.in-Some.ensures in
    let lines : c.push_stroke.new.plan.items ≡ plan ++ stroke_lines (stroke_start number) stroke =
    c.in_ok-push_stroke.ensures ∙ ap (λ start. plan ++ stroke_lines start stroke) c.stroke_start.ensures.start in
    subst (IsSoFar layout text (number + 1)) (sym lines)
    (so_far-next layout text number plan c.loop-number.invariant stroke c.loop-number-test.true is)
