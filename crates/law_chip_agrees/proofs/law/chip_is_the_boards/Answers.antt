use Rattle.std.proofs.Common.{refl}
use Rattle.joint_run.specs.Joint.{joint_start_of}
use Rattle.law_chip_agrees.proofs.Steps.{follows, next_is}
use Rattle.law_chip_agrees.proofs.law.chip_is_the_boards.Goals as goal

pub returns : goal.returns
returns c = record {
  step = λ edges events program w. next_is edges events program w;
  run = λ held edges events program chips begun wired n w r.
      follows edges events program (joint_start_of held) chips begun wired n w r;
  fill = λ fill program. refl;
}
