use Rattle.std.proofs.Common.{◌++◌, ap, ◌∙◌}
use Rattle.app_answers.proofs.EndStates.{rows_put}
use Rattle.app_answers.proofs.end_state.end_lines.Goals as goal

pub returns : goal.returns
returns c =
    rows_put c.args.end.now c.args.steps c.args.cycles c.new-text.result.items c.append.new.text.items c.append-2.new.text.items
    c.append-3.new.text.items c.append-4.new.text.items c.append-5.new.text.items
    c.new-text.ensures
    (c.append.ensures ∙ ap (λ t. c.new-text.result.items ++ t) (c.deref.ensures.0 ∙ c.state_line.ensures.line))
    (c.append-2.ensures ∙ ap (λ t. c.append.new.text.items ++ t) (c.deref-2.ensures.0 ∙ c.state_line-2.ensures.line))
    (c.append-3.ensures ∙ ap (λ t. c.append-2.new.text.items ++ t) (c.deref-3.ensures.0 ∙ c.state_line-3.ensures.line))
    (c.append-4.ensures ∙ ap (λ t. c.append-3.new.text.items ++ t) (c.deref-4.ensures.0 ∙ c.state_line-4.ensures.line))
    (c.append-5.ensures ∙ ap (λ t. c.append-4.new.text.items ++ t) (c.deref-5.ensures.0 ∙ c.state_line-5.ensures.line))
