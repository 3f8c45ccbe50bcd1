use Rattle.std.proofs.Common.{◌≡◌, ◌≤◌, ◌+◌, ◌^◌, ◌-◌, ℕ}
use Rattle.live_board.specs.Onward.{AreUnmetSteps}
use Rattle.live_board.specs.Rising.{irq_of}
use Rattle.live_board.specs.Running.{AreFew}
use Rattle.live_board.proofs.parts.Parts.go_to.Given as goal

abbrev pub invariant-going : goal.invariant-going
invariant-going l = record {
  start : l.start ≡ l.fn.self.joint.cycle;
  first : l.first ≡ l.fn.self.joint.steps;
  line : l.was ≡ irq_of l.self.joint.outside.desk.port;
  later : l.fn.self.joint.cycle ≤ l.self.joint.cycle;
  more : l.fn.self.joint.steps ≤ l.self.joint.steps;
  limit : AreFew l.fn.self l.steps l.self;
  few : l.self.rises + l.start ≤ l.self.joint.cycle;
  onward : (n : ℕ) × AreUnmetSteps l.stops l.fn.self l.cycles n l.self;
}

abbrev pub decreases-going : goal.decreases-going
decreases-going l = 2 ^ 63 - l.self.joint.cycle
