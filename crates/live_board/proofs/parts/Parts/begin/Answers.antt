use Rattle.std.proofs.Common.{None, false}
use Rattle.live_board.proofs.Calling.{holds_after}
use Rattle.live_board.proofs.Running.{has_kept, has_run}
use Rattle.live_board.specs.Pasts.{gone_on, untouched}
use Rattle.live_board.specs.Running.{at_rise}
use Rattle.live_board.proofs.parts.Parts.begin.Goals as goal

pub returns-clause-opened : goal.returns-clause-opened
returns-clause-opened c = λ fill first.
    let p = untouched fill c.args.self.now.joint.image.bytes 0 in
    record {
      first = c.args.self.now;
      at_first = first.at_first;
      first_cycle = first.cycle;
      none_kept = first.none_kept;
      middle = c.run.new.self;
      end = c.run.result.end;
      ran = has_run (at_rise false) p c.args.self.now 4096 None first.at_first c.run.result.end c.run.new.self c.run.ensures.onward;
      ran_reported = has_kept (at_rise false) p c.args.self.now 4096 None first.at_first c.run.result.end c.run.new.self
          c.run.ensures.onward;
      answer = c.act.result;
      masked = c.act.ensures.acted;
      masked_reported = c.act.ensures.log_kept;
    }

pub returns-clause-has_past : goal.returns-clause-has_past
returns-clause-has_past c = λ fill first.
    let p = untouched fill c.args.self.now.joint.image.bytes 0 in
    let ran = has_run (at_rise false) p c.args.self.now 4096 None first.at_first c.run.result.end c.run.new.self c.run.ensures.onward in
    holds_after (gone_on p c.run.new.self.joint.steps) _ c.run.new.self c.act.new.self c.act.result ran.has_past c.act.ensures.acted
