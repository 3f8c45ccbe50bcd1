use Rattle.board_terms.proofs.Shown.{first_edges_shown}
use Rattle.board_terms.proofs.laws.first_edges_shown.Goals as goal

pub returns : goal.returns
returns c = record { shown = first_edges_shown }
