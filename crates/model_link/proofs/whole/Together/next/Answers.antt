use Rattle.std.proofs.Common.{◌∙◌, ℕ, List, Bool, sym, subst}
use Rattle.std.specs.Prelude.{All}
use Rattle.board_terms.specs.Cadence.{listed}
use Rattle.layout_reader.specs.Layouts.{HasEntry}
use Rattle.model_link.proofs.Known.{tick_edges_known}
use Rattle.model_link.proofs.whole.Together.next.Goals as goal

pub tick-requires-clause-edges : goal.tick-requires-clause-edges
tick-requires-clause-edges c =
    subst (λ (es : List (ℕ × Bool)). All (λ e. HasEntry c.args.layout.now e.0) es) (sym (c.as_slice.ensures.value ∙ c.in_ok-seen.ensures))
    (tick_edges_known (HasEntry c.args.layout.now) (listed c.args.starts.now) c.args.edges.now c.args.n c.requires.keys)
