use Rattle.law_ready_agrees.proofs.Ready.{ready}
use Rattle.law_ready_agrees.proofs.ready_has_put_out.Goals as goal

pub returns : goal.returns
returns c = record {
  ready = ready c.never_stuck.ensures.goes_on c.calls_agree.ensures.agrees c.calls_agree.ensures.any_use
      c.calls_agree.ensures.any_fill c.run_and_model_agree.ensures.prompt c.nothing_is_read_twice.ensures.once;
}
