use Rattle.std.specs.Prelude.{codes}
use Rattle.capture_lines.specs.Counting.{count_line}
use Rattle.capture_lines.proofs.Parts.{four}
use Rattle.capture_lines.proofs.summary.push_timing.Goals as goal

pub returns : goal.returns
returns c =
    four c.args.text.now.items (count_line (codes "times outside the limits: ") c.args.count) _ _ _ _ _ _ _
    c.in_ok-push_count.ensures c.in_ok-push_span_line.ensures
    (rw c.mean.ensures.mean at c.in_ok-push_span_line-2.ensures) c.in_ok-push_span_line-3.ensures
