use Rattle.std.proofs.Common.{ap, sym, ◌∙◌}
use Rattle.hexfile.specs.Hex.{hex_of}
use Rattle.layout_reader.specs.Documents.{layout_of_document}
use Rattle.kbd48_app.proofs.BoardsAreSaid.{keys_unread, three_spoken}
use Rattle.kbd48_app.proofs.boarding.over_board.Goals as goal

pub returns-clause-ends : goal.returns-clause-ends
returns-clause-ends g c =
    three_spoken c.args.wanted c.args.image.now c.args.layout.now c.args.keys.now (g.F.Shelf.in_memory c.args.shelf.now)
    _ _ _ c.in_ok-file.file c.in_ok-document.document c.in_ok-text.text
    c.in_ok-image.image.bytes c.in_ok-layout.layout _
    c.in_ok-file.ensures.gives c.in_ok-file.ensures.fetched (ap hex_of (sym c.deref.ensures.value) ∙ c.in_ok-image.ensures)
    c.in_ok-document.ensures.gives c.in_ok-document.ensures.fetched
    (ap layout_of_document (sym c.deref-2.ensures.value) ∙ c.in_ok-layout.ensures)
    c.in_ok-text.ensures.gives c.in_ok-text.ensures.fetched c.deref-3.ensures.value _ _ c.run_board.result
    (g.K.Sink.shown c.args.out.now)
    (g.K.Sink.shown c.run_board.new.out)
    c.run_board.ensures.says

pub returns-in_err-text-clause-ends : goal.returns-in_err-text-clause-ends
returns-in_err-text-clause-ends g c =
    keys_unread c.args.wanted c.args.image.now c.args.layout.now c.args.keys.now (g.F.Shelf.in_memory c.args.shelf.now)
    _ _ _ c.in_ok-file.file c.in_ok-document.document
    c.in_ok-image.image.bytes c.in_ok-layout.layout
    c.in_ok-file.ensures.gives c.in_ok-file.ensures.fetched (ap hex_of (sym c.deref.ensures.value) ∙ c.in_ok-image.ensures)
    c.in_ok-document.ensures.gives c.in_ok-document.ensures.fetched
    (ap layout_of_document (sym c.deref-2.ensures.value) ∙ c.in_ok-layout.ensures)
    c.in_err-text.field-0.0 c.in_err-text.ensures.gives c.in_err-text.ensures.fetched _ c.from_residual-in_err-text.result
    (g.K.Sink.shown c.args.out.now)
    c.from_residual-in_err-text.ensures.1
