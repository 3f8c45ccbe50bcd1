use Rattle.std.proofs.Common.{◌≡◌, length}
use Rattle.capture_frames.specs.Listening.{at_first}
use Rattle.capture_lines.specs.Captures.{found_by}
use Rattle.capture_keys.specs.Typed.{followed_all}
use Rattle.capture_keys.proofs.typing.Typist.follow_samples.Given as goal

-- what is left is followed from here on
abbrev pub invariant-samples : goal.invariant-samples
invariant-samples l = record {
  followed : followed_all l.layout (found_by l.listener l.reader.samples) l.self
      ≡ followed_all l.layout (found_by at_first l.fn.reader.samples) l.fn.self;
  fault : l.reader.fault ≡ l.fn.reader.fault;
}

abbrev pub decreases-samples : goal.decreases-samples
decreases-samples l = length l.reader.samples
