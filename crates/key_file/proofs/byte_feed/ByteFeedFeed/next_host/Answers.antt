use Rattle.std.proofs.Common.{ap, sym, ◌∙◌}
use Rattle.std.specs.List.{slice_get}
use Rattle.key_file.proofs.Cursors.{first_left, none_left}
use Rattle.key_file.proofs.byte_feed.ByteFeedFeed.next_host.Goals as goal

pub invariant_of-self : goal.invariant_of-self
invariant_of-self c =
    let inv = c.self.invariant in
    record {
      file = inv.file;
      accepted = inv.accepted;
      end = inv.end;
      edges = inv.edges;
      host = (first_left _ c.self.inside.host _ _ (sym c.in-Some.ensures ∙ inv.host)).others;
    }

pub returns-in-Some-clause-event : goal.returns-in-Some-clause-event
returns-in-Some-clause-event c =
    (first_left _ c.self.inside.host _ _ (sym c.in-Some.ensures ∙ c.self.invariant.host)).first
    ∙ ap (λ v. slice_get v.history.host v.host) c.self.view_is

pub returns-in-None-clause-event : goal.returns-in-None-clause-event
returns-in-None-clause-event c =
    none_left _ c.self.inside.host (sym c.in-None.ensures ∙ c.self.invariant.host)
    ∙ ap (λ v. slice_get v.history.host v.host) c.self.view_is
