use Rattle.std.specs.Prelude.{codes}
use Rattle.capture_lines.specs.Counting.{count_line}
use Rattle.capture_lines.proofs.Parts.{four}
use Rattle.capture_lines.proofs.counts.Counts.push_pulses.Goals as goal

pub returns : goal.returns
returns c =
    four c.args.text.now.items (count_line (codes "edges without a start bit: ") c.args.self.now.strays) _ _ _ _ _ _ _
    c.in_ok-push_count.ensures c.in_ok-push_count-2.ensures c.in_ok-push_count-3.ensures c.in_ok-push_count-4.ensures
