use Rattle.std.proofs.Common.{◌≡◌, ◌+◌, None, subst}
use Rattle.live_board.proofs.Running.{has_kept, has_run}
use Rattle.live_board.specs.Onward.{RunsOn}
use Rattle.live_board.specs.Running.{at_rise}
use Rattle.live_board.specs.declared.parts.Parts.{Parts}
use Rattle.live_board.proofs.keyboard.Keyboard.run.Goals as goal

pub returns : goal.returns
returns c =
    let old = c.args.self.now in
    let new = c.run.new.self in
    let stops = at_rise c.args.watched in
    let cycles = c.args.cycles in
    let end = c.run.result.end in
    let onward : RunsOn stops old cycles None end new =
    subst (λ (k : Parts). RunsOn stops k cycles None end new) c.self.view_is c.run.ensures.onward in
    record {
      cycles = subst (λ (k : Parts). k.joint.cycle + c.run.result.cycles ≡ new.joint.cycle) c.self.view_is c.run.ensures.cycles;
      run = λ p s. has_run stops p old cycles None s end new onward;
      log_kept = λ p s. has_kept stops p old cycles None s end new onward;
      onward = onward;
    }
