use Rattle.std.proofs.Common.{ap, sym, ◌∙◌}
use Rattle.key_file.specs.KeyFile.{history_of}
use Rattle.layout_reader.specs.Documents.{layout_of_document}
use Rattle.kbd48_app.specs.Plans.{debug_next}
use Rattle.kbd48_app.proofs.FilesAreFound.{both_found, script_of}
use Rattle.kbd48_app.proofs.debugging.over_debug.Goals as goal

pub returns-clause-ends : goal.returns-clause-ends
returns-clause-ends g c = λ taking.
    both_found c.args.layout.now c.args.keys.now (debug_next c.args.script.now) (g.F.Shelf.in_memory c.args.shelf.now)
    _ _ _ _ _ _ c.in_ok-document.document c.in_ok-text.text c.in_ok-layout.layout c.in_ok-history.history
    c.in_ok-document.ensures.gives c.in_ok-document.ensures.fetched
    (ap layout_of_document (sym c.deref.ensures.value) ∙ c.in_ok-layout.ensures)
    c.in_ok-text.ensures.gives c.in_ok-text.ensures.fetched
    (ap (history_of c.in_ok-layout.layout) (sym c.deref-2.ensures.value) ∙ c.in_ok-history.ensures.history)
    (script_of c.of_layout-debuggee.result _ c.args.script.now _ _ _ _ _ c.of_layout-debuggee.ensures (c.over_script.ensures.ends taking))
