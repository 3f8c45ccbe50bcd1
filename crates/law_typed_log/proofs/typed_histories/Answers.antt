use Rattle.law_typed_log.proofs.Played.{strokes_are_playable}
use Rattle.law_typed_log.proofs.typed_histories.Goals as goal

pub returns : goal.returns
returns c = record { playable = strokes_are_playable }
