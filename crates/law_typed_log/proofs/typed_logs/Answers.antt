use Rattle.law_typed_log.proofs.Texts.{strokes_say_text}
use Rattle.law_typed_log.proofs.typed_logs.Goals as goal

pub returns : goal.returns
returns c = record { says = strokes_say_text }
