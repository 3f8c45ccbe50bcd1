use Rattle.std.proofs.Common.{ap, sym, ◌∙◌}
use Rattle.layout_reader.specs.Documents.{layout_of_document}
use Rattle.kbd48_app.proofs.AnswersAreSpoken.{ran_spoken}
use Rattle.kbd48_app.proofs.answering.over_run.Goals as goal

pub returns-clause-ends : goal.returns-clause-ends
returns-clause-ends g c =
    ran_spoken c.args.command c.args.layout.now c.args.keys.now (g.F.Shelf.in_memory c.args.shelf.now)
    _ _ c.in_ok-document.document c.in_ok-text.text c.in_ok-layout.layout _
    c.in_ok-document.ensures.gives c.in_ok-document.ensures.fetched
    (ap layout_of_document (sym c.deref.ensures.value) ∙ c.in_ok-layout.ensures)
    c.in_ok-text.ensures.gives c.in_ok-text.ensures.fetched c.deref-2.ensures.value _ _ c.say_run.result
    (g.K.Sink.shown c.args.out.now)
    (g.K.Sink.shown c.say_run.new.out) c.say_run.ensures.says
