use Rattle.app_words.specs.declared.words.PairCommand.TheVariants.{Certify, Spell, OverRun}
use Rattle.kbd48_app.proofs.AnswersAreSpoken.{pair_by, pair_unsaid}
use Rattle.kbd48_app.proofs.answering.over_pair.Goals as goal

pub returns-in-Certify-clause-ends : goal.returns-in-Certify-clause-ends
returns-in-Certify-clause-ends g c =
    pair_unsaid c.args.command Certify c.args.first.now c.args.second.now (g.F.Shelf.in_memory c.args.shelf.now)
    _ _ c.over_cert.result c.to_say.result
    (g.K.Sink.shown c.args.out.now)
    c.in-Certify.is c.to_say.ensures c.over_cert.ensures.ends

pub returns-in-Spell-clause-ends : goal.returns-in-Spell-clause-ends
returns-in-Spell-clause-ends g c =
    pair_unsaid c.args.command Spell c.args.first.now c.args.second.now (g.F.Shelf.in_memory c.args.shelf.now)
    _ _ c.over_text.result c.to_say-in-Spell.result
    (g.K.Sink.shown c.args.out.now)
    c.in-Spell.is c.to_say-in-Spell.ensures c.over_text.ensures.ends

pub returns-in-OverRun-clause-ends : goal.returns-in-OverRun-clause-ends
returns-in-OverRun-clause-ends g c =
    pair_by c.args.command (OverRun c.in-OverRun.command) c.args.first.now c.args.second.now
    (g.F.Shelf.in_memory c.args.shelf.now) _ _ _ c.over_run.result
    (g.K.Sink.shown c.args.out.now)
    (g.K.Sink.shown c.over_run.new.out)
    c.in-OverRun.is c.over_run.ensures.ends
