use Rattle.model_link.proofs.Few.{edges_are_shown}
use Rattle.model_link.proofs.laws.edges_shown.Goals as goal

pub returns : goal.returns
returns c = record { shown = edges_are_shown }
