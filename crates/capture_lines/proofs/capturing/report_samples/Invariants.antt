use Rattle.std.proofs.Common.{◌≡◌, length}
use Rattle.capture_lines.specs.Captures.{found_by, reported_all}
use Rattle.capture_lines.specs.Timing.{timed_all}
use Rattle.capture_frames.specs.Listening.{at_first}
use Rattle.capture_lines.proofs.capturing.report_samples.Given as goal

-- what is left is reported from here on
abbrev pub invariant-samples : goal.invariant-samples
invariant-samples l = record {
  reported : reported_all (found_by l.listener l.reader.samples) l.report ≡ reported_all (found_by at_first l.fn.reader.samples) l.fn.report;
  timed : timed_all l.reader.samples l.timing ≡ timed_all l.fn.reader.samples l.fn.timing;
  fault : l.reader.fault ≡ l.fn.reader.fault;
}

abbrev pub decreases-samples : goal.decreases-samples
decreases-samples l = length l.reader.samples
