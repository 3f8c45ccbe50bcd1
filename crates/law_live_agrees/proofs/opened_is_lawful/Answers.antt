use Rattle.law_live_agrees.proofs.Opened.{opened_is_masked, ready_is_masked}
use Rattle.law_live_agrees.proofs.opened_is_lawful.Goals as goal

pub returns : goal.returns
returns c = record {
  opened = opened_is_masked c.any_keys.ensures.never_stops c.run_and_model_agree.ensures.any_memory;
  ready = ready_is_masked c.any_keys.ensures.never_stops c.run_and_model_agree.ensures.any_memory;
}
