use Rattle.capture_lines.proofs.Parts.{three}
use Rattle.capture_lines.proofs.summary.push_codes.Goals as goal

pub returns : goal.returns
returns c =
    three c.args.text.now.items _ _ _ _ _ _
    (rw c.is_xt.ensures at c.in_ok-push_xt.ensures) (rw c.lone.ensures at c.in_ok-push_count.ensures)
    (rw c.thrice.ensures at c.in_ok-push_count-2.ensures)
