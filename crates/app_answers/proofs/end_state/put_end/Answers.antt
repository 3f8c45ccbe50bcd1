use Rattle.std.proofs.Common.{◌≡◌, true, sym, ◌∙◌, ap, subst}
use Rattle.std.specs.Prelude.{[], OnErr, OnOk, if◌then◌else◌}
use Rattle.io_edge.specs.Said.{IsBrokenOff, IsSaid}
use Rattle.mcs48_core.specs.StateText.{state_text_of}
use Rattle.app_answers.proofs.end_state.put_end.Goals as goal

pub returns-clause-said : goal.returns-clause-said
returns-clause-said g c =
    let x = g.K.Sink.shown c.args.out.now in
    let z = g.K.Sink.shown c.say.new.out in
    let wanted : c.args.wanted ≡ true = cc c.if-not-wanted.false in
    subst (λ t. OnOk c.say.result (IsSaid x z t))
    (c.deref.ensures.0 ∙ c.end_lines.ensures
    ∙ ap (λ b. if b then state_text_of c.args.end.now c.args.steps c.args.cycles else []) (sym wanted)) c.say.ensures.said

pub returns-clause-broken : goal.returns-clause-broken
returns-clause-broken g c =
    let x = g.K.Sink.shown c.args.out.now in
    let z = g.K.Sink.shown c.say.new.out in
    let wanted : c.args.wanted ≡ true = cc c.if-not-wanted.false in
    subst (λ t. OnErr c.say.result (IsBrokenOff x z t))
    (c.deref.ensures.0 ∙ c.end_lines.ensures
    ∙ ap (λ b. if b then state_text_of c.args.end.now c.args.steps c.args.cycles else []) (sym wanted)) c.say.ensures.broken
