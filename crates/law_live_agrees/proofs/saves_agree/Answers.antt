use Rattle.law_live_agrees.proofs.Saved.{answers_keep_alike, hands_keep_alike, keys_keep_alike, loaded_alike, runs_keep_alike}
use Rattle.law_live_agrees.proofs.Saved.{saves_alike}
use Rattle.law_live_agrees.proofs.saves_agree.Goals as goal

pub returns : goal.returns
returns c = record {
  loaded = loaded_alike;
  saved = saves_alike;
  calls = (answers_keep_alike, answers_keep_alike, answers_keep_alike);
  keys = keys_keep_alike;
  runs = runs_keep_alike;
  hands = hands_keep_alike;
}
