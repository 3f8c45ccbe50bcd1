use Rattle.law_live_agrees.proofs.Queued.{image_says_debounce, queued_agree, stays_queued}
use Rattle.law_live_agrees.proofs.queued_keys_agree.Goals as goal

pub returns : goal.returns
returns c = record {
  queued = stays_queued;
  says_debounce = image_says_debounce;
  agrees = queued_agree c.run_and_model_agree.ensures.any_memory c.edges_are_lawful.ensures.lawful;
}
