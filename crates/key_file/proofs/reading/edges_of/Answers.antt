use Rattle.std.proofs.Common.{◌≡◌, ◌++◌, ◌∷◌, [], take, Some, None, ap, sym, subst, ◌∙◌}
use Rattle.std.specs.List.{slice_get}
use Rattle.key_file.proofs.Took.{take_one_more, take_to_end}
use Rattle.key_file.proofs.reading.edges_of.Goals as goal

pub loop-edge-preserved : goal.loop-edge-preserved
loop-edge-preserved c =
    let h = c.in-Some.ensures in
    let inv = c.loop-edge.invariant in
    let there = subst (λ k. Some c.in-Some.edge ≡ slice_get k.edges c.loop-edge.feed.edges) inv.history h.edge in
    record {
      history = ap (λ f. f.history) h.taken ∙ inv.history;
      host = ap (λ f. f.host) h.taken ∙ inv.host;
      edges =
          c.in_ok-push.ensures.items ∙ ap (λ xs. xs ++ c.in-Some.edge ∷ []) inv.edges
          ∙ take_one_more c.args.feed.now.history.edges c.loop-edge.feed.edges c.in-Some.edge there
          ∙ sym (ap (λ f. take f.edges c.args.feed.now.history.edges) h.taken);
    }

pub returns-clause-edges : goal.returns-clause-edges
returns-clause-edges c =
    let inv = c.loop-edge.invariant in
    inv.edges ∙ take_to_end c.args.feed.now.history.edges c.loop-edge.feed.edges
    (subst (λ k. None ≡ slice_get k.edges c.loop-edge.feed.edges) inv.history c.in_default.ensures.edge)
