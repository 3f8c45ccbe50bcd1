use Rattle.std.proofs.Common.{ap, refl, sym, ◌∙◌}
use Rattle.debugger.specs.Sessions.{with_fill}
use Rattle.hexfile.specs.Hex.{hex_of}
use Rattle.key_file.specs.KeyFile.{history_of}
use Rattle.layout_reader.specs.Documents.{layout_of_document}
use Rattle.kbd48_app.specs.Plans.{probe_next}
use Rattle.kbd48_app.proofs.FilesAreFound.{both_found, image_found, keys_unfound_by, script_of}
use Rattle.kbd48_app.proofs.debugging.over_probe.Goals as goal

pub returns-clause-ends : goal.returns-clause-ends
returns-clause-ends g c = λ taking.
    image_found c.args.image.now c.args.layout.now c.args.keys.now (probe_next c.args.fill c.args.script.now)
    (g.F.Shelf.in_memory c.args.shelf.now) _ _ _ _ _ c.in_ok-file.file c.in_ok-image.image.bytes
    c.in_ok-file.ensures.gives c.in_ok-file.ensures.fetched (ap hex_of (sym c.deref.ensures.value) ∙ c.in_ok-image.ensures)
    (both_found c.args.layout.now c.args.keys.now (λ layout. probe_next c.args.fill c.args.script.now c.in_ok-image.image.bytes)
    _ _ _ _ _ _ _ c.in_ok-document.document c.in_ok-text.text c.in_ok-layout.layout c.in_ok-history.history
    c.in_ok-document.ensures.gives c.in_ok-document.ensures.fetched
    (ap layout_of_document (sym c.deref-2.ensures.value) ∙ c.in_ok-layout.ensures)
    c.in_ok-text.ensures.gives c.in_ok-text.ensures.fetched
    (ap (history_of c.in_ok-layout.layout) (sym c.deref-3.ensures.value) ∙ c.in_ok-history.ensures.history)
    (script_of c.with_fill-debuggee.result _ c.args.script.now _ _ _ _ _
    (c.with_fill-debuggee.ensures ∙ ap (λ d. with_fill c.args.fill d) c.of_program.ensures) (c.over_script.ensures.ends taking)))

pub returns-in_err-text-clause-ends : goal.returns-in_err-text-clause-ends
returns-in_err-text-clause-ends g c = λ taking.
    keys_unfound_by (probe_next c.args.fill c.args.script.now) c.args.image.now c.args.layout.now c.args.keys.now
    (g.F.Shelf.in_memory c.args.shelf.now) _ _ _ c.in_ok-file.file c.in_ok-document.document
    c.in_ok-image.image.bytes c.in_ok-layout.layout
    c.in_ok-file.ensures.gives c.in_ok-file.ensures.fetched (ap hex_of (sym c.deref.ensures.value) ∙ c.in_ok-image.ensures)
    c.in_ok-document.ensures.gives c.in_ok-document.ensures.fetched
    (ap layout_of_document (sym c.deref-2.ensures.value) ∙ c.in_ok-layout.ensures)
    c.in_err-text.field-0.0 c.in_err-text.ensures.gives c.in_err-text.ensures.fetched _ _ refl refl
    c.from_residual-in_err-text.result c.from_residual-in_err-text.ensures.1
