use Rattle.key_planner.proofs.Typed.{plan-history, plan-types}
use Rattle.key_planner.proofs.planning.plan.Goals as goal

pub returns-clause-history : goal.returns-clause-history
returns-clause-history c =
    plan-history c.args.layout.now c.args.text.now c.typed_histories.ensures.playable c.typed_logs.ensures.says
    c.is_layout.ensures c.requires.within c.in_ok-written.field-0.items c.in_ok-written.ensures.plan

pub returns-clause-types : goal.returns-clause-types
returns-clause-types c =
    plan-types c.args.layout.now c.args.text.now c.typed_histories.ensures.playable c.typed_logs.ensures.says c.is_layout.ensures
    c.requires.within c.in_ok-written.field-0.items c.in_ok-written.ensures.plan
