use Rattle.board_terms.proofs.Shown.{edges_shown}
use Rattle.board_terms.proofs.laws.edges_shown.Goals as goal

pub returns : goal.returns
returns c = record { shown = edges_shown }
