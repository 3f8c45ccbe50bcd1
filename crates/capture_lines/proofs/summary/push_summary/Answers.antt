use Rattle.capture_lines.specs.Summary.{summary}
use Rattle.capture_lines.proofs.Parts.{four}
use Rattle.capture_lines.proofs.summary.push_summary.Goals as goal

pub returns : goal.returns
unfolding summary
returns c =
    four c.args.text.now.items _ _ _ _ _ _ _ _
    c.in_ok-push_frames.ensures c.in_ok-push_pulses.ensures
    (rw c.periods.ensures at (rw c.count.ensures at c.in_ok-push_timing.ensures)) c.in_ok-push_codes.ensures
