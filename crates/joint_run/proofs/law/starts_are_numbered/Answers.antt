use Rattle.joint_run.specs.Joint.{joint_board, joint_start}
use Rattle.joint_run.proofs.Numbers.{nth_reached}
use Rattle.joint_run.proofs.law.starts_are_numbered.Goals as goal

pub returns : goal.returns
returns c = record {
  numbered = λ edges events tick_pc bytes n stamp w nth at cycle.
      let r = nth_reached (joint_board edges events) tick_pc bytes joint_start n w nth in
      record { steps = r.0; state = w; reached = r.1.0; at = at; number = r.1.1; cycle = cycle };
}
