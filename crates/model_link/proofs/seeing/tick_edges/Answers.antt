use Rattle.std.proofs.Common.{ℕ, ap, ◌∙◌, subst, map}
use Rattle.std.specs.List.{filter}
use Rattle.std.specs.declared.option.Option.{Option}
use Rattle.board_terms.specs.Edges.{of_place}
use Rattle.board_terms.specs.Cadence.{listed}
use Rattle.model_link.specs.TickEdges.{by_place, change_of}
use Rattle.model_link.specs.Seeing.{sees, HasSeen}
use Rattle.model_link.proofs.Windows.{tick_edges_so}
use Rattle.model_link.proofs.seeing.tick_edges.Goals as goal

pub returns : goal.returns
returns c =
    let now : ℕ = listed c.args.starts.now c.args.n in
    c.in_ok-seen.ensures
    ∙ ap (λ (b : Option ℕ). map change_of (by_place (λ p. filter (sees b now) (of_place p c.window.result.now)) 96))
    c.start_before-before.ensures
    ∙ tick_edges_so (listed c.args.starts.now) c.args.n c.args.edges.now c.window.result.now c.requires.cadence
    (subst (λ (b : Option ℕ). HasSeen b now c.window.result.now c.args.edges.now) c.start_before-before.ensures c.window.ensures)
