use Rattle.std.proofs.Common.{ap, sym, ◌∙◌}
use Rattle.std.specs.List.{slice_get}
use Rattle.key_file.proofs.Cursors.{first_left, none_left}
use Rattle.key_file.proofs.byte_feed.ByteFeedFeed.next_edge.Goals as goal

pub invariant_of-self : goal.invariant_of-self
invariant_of-self c =
    let inv = c.self.invariant in
    record {
      file = inv.file;
      accepted = inv.accepted;
      end = inv.end;
      edges = (first_left _ c.self.inside.edges _ _ (sym c.in-Some.ensures ∙ inv.edges)).others;
      host = inv.host;
    }

pub returns-in-Some-clause-edge : goal.returns-in-Some-clause-edge
returns-in-Some-clause-edge c =
    (first_left _ c.self.inside.edges _ _ (sym c.in-Some.ensures ∙ c.self.invariant.edges)).first
    ∙ ap (λ v. slice_get v.history.edges v.edges) c.self.view_is

pub returns-in-None-clause-edge : goal.returns-in-None-clause-edge
returns-in-None-clause-edge c =
    none_left _ c.self.inside.edges (sym c.in-None.ensures ∙ c.self.invariant.edges)
    ∙ ap (λ v. slice_get v.history.edges v.edges) c.self.view_is
