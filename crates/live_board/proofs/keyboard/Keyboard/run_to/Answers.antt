use Rattle.std.proofs.Common.{◌≡◌, ◌+◌, subst}
use Rattle.live_board.proofs.Running.{has_kept, has_run}
use Rattle.live_board.specs.Onward.{RunsOn}
use Rattle.live_board.specs.declared.parts.Parts.{Parts}
use Rattle.live_board.proofs.keyboard.Keyboard.run_to.Goals as goal

pub returns : goal.returns
returns c =
    let old = c.args.self.now in
    let new = c.run_to.new.self in
    let stops = c.args.stops.now in
    let cycles = c.args.cycles in
    let steps = c.args.steps in
    let end = c.run_to.result.end in
    let onward : RunsOn stops old cycles steps end new =
    subst (λ (k : Parts). RunsOn stops k cycles steps end new) c.self.view_is c.run_to.ensures.onward in
    record {
      cycles = subst (λ (k : Parts). k.joint.cycle + c.run_to.result.cycles ≡ new.joint.cycle) c.self.view_is c.run_to.ensures.cycles;
      run = λ p s. has_run stops p old cycles steps s end new onward;
      log_kept = λ p s. has_kept stops p old cycles steps s end new onward;
      onward = onward;
    }
