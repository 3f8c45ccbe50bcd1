use Rattle.std.proofs.Common.{◌≡◌, ◌++◌, ◌∷◌, [], take, Some, None, ap, sym, subst, ◌∙◌}
use Rattle.std.specs.List.{slice_get}
use Rattle.key_file.proofs.Took.{take_one_more, take_to_end}
use Rattle.key_file.proofs.reading.host_of.Goals as goal

pub loop-event-preserved : goal.loop-event-preserved
loop-event-preserved c =
    let h = c.in-Some.ensures in
    let inv = c.loop-event.invariant in
    let there = subst (λ k. Some c.in-Some.event ≡ slice_get k.host c.loop-event.feed.host) inv.history h.event in
    record {
      history = ap (λ f. f.history) h.taken ∙ inv.history;
      events =
          c.in_ok-push.ensures.items ∙ ap (λ xs. xs ++ c.in-Some.event ∷ []) inv.events
          ∙ take_one_more c.args.feed.now.history.host c.loop-event.feed.host c.in-Some.event there
          ∙ sym (ap (λ f. take f.host c.args.feed.now.history.host) h.taken);
    }

pub returns-clause-events : goal.returns-clause-events
returns-clause-events c =
    let inv = c.loop-event.invariant in
    inv.events ∙ take_to_end c.args.feed.now.history.host c.loop-event.feed.host
    (subst (λ k. None ≡ slice_get k.host c.loop-event.feed.host) inv.history c.in_default.ensures.event)
