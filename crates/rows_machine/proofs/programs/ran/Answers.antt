use Rattle.std.proofs.Common.{rules, subst, sym}
use Rattle.joint_feed.specs.Stories.{Story}
use Rattle.key_file.specs.Accepted.{IsAccepted}
use Rattle.run_loop.specs.Gliding.{history_of as history_run}
use Rattle.rows_machine.proofs.programs.ran.Goals as goal

pub run_to-requires : goal.run_to-requires
run_to-requires g c = record {
  accepted = subst (λ (s : Story). IsAccepted (history_run s)) (sym c.in_ok-board.ensures.run) (search rules);
}
