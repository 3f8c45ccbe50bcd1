use Rattle.law_live_agrees.proofs.Agreed.{answers_alike, any_use_is_lawful, fills_are_fine, logs_agree, states_alike, words_alike}
use Rattle.law_live_agrees.proofs.Ends.{calls_alike}
use Rattle.law_live_agrees.proofs.Keys.{keys_alike}
use Rattle.law_live_agrees.proofs.Runs.{runs_end_alike}
use Rattle.law_live_agrees.proofs.calls_agree.Goals as goal

pub returns : goal.returns
returns c = record {
  agrees = logs_agree c.run_and_model_agree.ensures.any_memory;
  one_state = states_alike;
  one_answer = answers_alike;
  one_word = words_alike;
  one_outcome = calls_alike;
  one_key = keys_alike;
  one_end = runs_end_alike;
  any_use = any_use_is_lawful;
  any_fill = fills_are_fine;
}
